-- In a reduced and ordered list each set has one number.
use Rattle.std.proofs.Common.{◌≡◌, ◌≢◌, ◌⊎◌, ℕ, ◌+◌, ◌-◌, ◌<◌, ◌≤◌, Bool, true, false, List, [], ◌∷◌, length, take, drop, refl, sym, ◌∙◌, ap, subst, arith, zero, suc, inl, inr}
use Rattle.std.specs.Prelude.{Some, None, if◌then◌else◌, nat_eq, slice_get, Contains}
use Rattle.std.proofs.lemmas.List.{take-append-drop}
use Rattle.vx_space.specs.Config.{value_of, with_option, AgreeBelow}
use Rattle.vx_space.proofs.Configs.{value_of-same, value_of-other}
use Rattle.vx_bdd_tools.specs.declared.node.Node.{Node}
use Rattle.vx_bdd_tools.specs.Nodes.{node_of, walk, holds, level, option_of, IsReducedList}
use Rattle.vx_bdd_tools.proofs.NodeLists.{node_cases, node_within, next_node, part_falls, walk-end, holds-node, level-append}

-- a node of a list, by its number: its parts have lesser numbers, differ, and ask later options
pub record IsNodeOf (options : ℕ) (nodes : List Node) (k : ℕ) (node : Node) : Type 0 where
  pub in_range : node.option < options
  pub low_falls : node.low < k
  pub high_falls : node.high < k
  pub within : k < length nodes + 2
  pub low_later : node.option < level options nodes node.low
  pub high_later : node.option < level options nodes node.high
  pub differ : node.low ≢ node.high

level-take : (options : ℕ) (nodes : List Node) (n k : ℕ) → k < length (take n nodes) + 2 → level options nodes k ≡ level options (take n nodes) k
level-take options nodes n k l =
    ap (λ xs. level options xs k) (sym (take-append-drop n nodes)) ∙ level-append options (take n nodes) (drop n nodes) k l

pub node_rules : {options : ℕ} {nodes : List Node} → IsReducedList options nodes → (k : ℕ) (node : Node) → node_of nodes k ≡ Some node → IsNodeOf options nodes k node
node_rules {options = options} {nodes = nodes} r k node e =
    let n = next_node r k node e in
    record {
      in_range = n.in_range;
      low_falls = part_falls r k node e false;
      high_falls = part_falls r k node e true;
      within = (node_within nodes k node e).1;
      low_later = omega (arith, n.low_later, level-take options nodes (k - 2) node.low n.low_given);
      high_later = omega (arith, n.high_later, level-take options nodes (k - 2) node.high n.high_given);
      differ = n.differ;
    }

pub part_later : {options : ℕ} {nodes : List Node} {k : ℕ} {node : Node} → IsNodeOf options nodes k node → (b : Bool) → node.option < level options nodes (if b then node.high else node.low)
part_later n true = n.high_later
part_later n false = n.low_later

-- a node stands once in the list
Contains-take : (xs : List Node) (n place : ℕ) (x : Node) → slice_get xs place ≡ Some x → place < n → Contains (take n xs) x
Contains-take [] n place x e l = cc
Contains-take (y ∷ xs) zero place x e l = absurd (omega (arith, l))
Contains-take (y ∷ xs) (suc n) zero x e l = (0, omega arith, cc (e))
Contains-take (y ∷ xs) (suc n) (suc place) x e l =
    let rest = Contains-take xs n place x e (omega (arith, l)) in
    (suc rest.0, omega (arith, rest.1), rest.2)

not_before : {options : ℕ} {nodes : List Node} → IsReducedList options nodes → (a b : ℕ) (node : Node) → slice_get nodes a ≡ Some node → slice_get nodes b ≡ Some node → a < b → ⊥
not_before {nodes = nodes} r a b node e f l = (r.each b node f).is_new (Contains-take nodes b a node e l)

pub order_cases : (i j : ℕ) → (i < j) ⊎ (j < i) ⊎ (i ≡ j)
order_cases zero zero = inr (inr refl)
order_cases zero (suc j) = inl (omega arith)
order_cases (suc i) zero = inr (inl (omega arith))
order_cases (suc i) (suc j) = elim (order_cases i j) [
  | inl l ↦ inl (omega (arith, l))
  | inr m ↦ elim m [ inl l ↦ inr (inl (omega (arith, l))) | inr e ↦ inr (inr (ap suc e)) ]
]

pub one_number : {options : ℕ} {nodes : List Node} → IsReducedList options nodes → (a b : ℕ) (node : Node) → node_of nodes a ≡ Some node → node_of nodes b ≡ Some node → a ≡ b
one_number r zero b node e f = cc (e)
one_number r (suc zero) b node e f = cc (e)
one_number r (suc (suc a)) zero node e f = cc (f)
one_number r (suc (suc a)) (suc zero) node e f = cc (f)
one_number r (suc (suc a)) (suc (suc b)) node e f = elim (order_cases a b) [
  | inl l ↦ absurd (not_before r a b node e f l)
  | inr m ↦ elim m [
    | inl l ↦ absurd (not_before r b a node f e l)
    | inr s ↦ ap (λ x. suc (suc x)) s
  ]
]

-- the walk doesn't read options below a number's level
walk-free : {options : ℕ} {nodes : List Node} → IsReducedList options nodes → (steps k : ℕ) (c : List Bool) (j : ℕ) (b : Bool) → j < level options nodes k → walk nodes steps k (with_option c j b) ≡ walk nodes steps k c
walk-free r zero k c j b l = refl
walk-free {options = options} {nodes = nodes} r (suc steps) k c j b l =
    elim (node_cases (node_of nodes k)) [
      | inl n ↦ rw (walk-end nodes (suc steps) k c n, walk-end nodes (suc steps) k (with_option c j b) n) refl
      | inr p ↦
          let here : level options nodes k ≡ p.0.option = ap (option_of options) p.1 in
          let other : j ≢ p.0.option = omega (arith, l, here) in
          let later = part_later (node_rules r k p.0 p.1) (value_of c p.0.option) in
          rw (p.1, value_of-other c j p.0.option b other) (walk-free r steps (if value_of c p.0.option then p.0.high else p.0.low) c j b (omega (arith, l, here, later)))
    ]

pub holds-free : {options : ℕ} {nodes : List Node} → IsReducedList options nodes → (k : ℕ) (c : List Bool) (j : ℕ) (b : Bool) → j < level options nodes k → holds nodes k (with_option c j b) ≡ holds nodes k c
holds-free r k c j b l = ap (λ w. nat_eq w 1) (walk-free r k k c j b l)

-- an option set on or off takes a node to its part
pub holds-part : {options : ℕ} {nodes : List Node} → IsReducedList options nodes → (k : ℕ) (node : Node) (c : List Bool) (b : Bool) → node_of nodes k ≡ Some node → holds nodes k (with_option c node.option b) ≡ holds nodes (if b then node.high else node.low) c
holds-part {nodes = nodes} r k node c b e =
    holds-node r k node (with_option c node.option b) e
    ∙ ap (λ v. holds nodes (if v then node.high else node.low) (with_option c node.option b)) (value_of-same c node.option b)
    ∙ holds-free r (if b then node.high else node.low) c node.option b (part_later (node_rules r k node e) b)

-- the two numbers hold the same set
pub record AreEqual (nodes : List Node) (a b : ℕ) : Type 0 where
  pub same : (c : List Bool) → holds nodes a c ≡ holds nodes b c

AreEqual-sym : {nodes : List Node} {a b : ℕ} → AreEqual nodes a b → AreEqual nodes b a
AreEqual-sym h = record { same = λ c. sym (h.same c) }

-- where a node's set is that of a number which asks later options, its parts have equal sets
equal_parts : {options : ℕ} {nodes : List Node} → IsReducedList options nodes → (a b : ℕ) (node : Node) → node_of nodes a ≡ Some node → node.option < level options nodes b → AreEqual nodes a b → AreEqual nodes node.low node.high
equal_parts r a b node e l h = record {
  same = λ c.
      sym (holds-part r a node c false e) ∙ h.same (with_option c node.option false) ∙ holds-free r b c node.option false l
      ∙ sym (holds-free r b c node.option true l) ∙ sym (h.same (with_option c node.option true)) ∙ holds-part r a node c true e;
}

-- equal nodes, by their fields
pub node_same : (m n : Node) → m.option ≡ n.option → m.low ≡ n.low → m.high ≡ n.high → m ≡ n
node_same m n e f g =
    let make : ℕ → ℕ → ℕ → Node = λ o l h. record { option = o; low = l; high = h } in
    ap (λ o. make o m.low m.high) e ∙ ap (λ l. make n.option l m.high) f ∙ ap (λ h. make n.option n.low h) g

-- a number of the list that has no node is never or always
number_end : (nodes : List Node) (k : ℕ) → k < length nodes + 2 → node_of nodes k ≡ None → (k ≡ 0) ⊎ (k ≡ 1)
number_end nodes zero l n = inl refl
number_end nodes (suc zero) l n = inr refl
number_end nodes (suc (suc place)) l n = absurd (within nodes place (omega (arith, l)) n)
  where
    within : (xs : List Node) (i : ℕ) → i < length xs → slice_get xs i ≡ None → ⊥
    within [] i m e = omega (arith, m)
    within (x ∷ xs) zero m e = cc
    within (x ∷ xs) (suc i) m e = within xs i (omega (arith, m)) e

ends_differ : (nodes : List Node) → AreEqual nodes 0 1 → ⊥
ends_differ nodes h = cc (h.same [])

ends_same : (nodes : List Node) (a b : ℕ) → (a ≡ 0) ⊎ (a ≡ 1) → (b ≡ 0) ⊎ (b ≡ 1) → AreEqual nodes a b → a ≡ b
ends_same nodes a b (inl e) (inl f) h = e ∙ sym f
ends_same nodes a b (inl e) (inr f) h =
    let P : ℕ → Type 0 = λ x. AreEqual nodes x b in
    let Q : ℕ → Type 0 = λ y. AreEqual nodes 0 y in
    absurd (ends_differ nodes (subst Q f (subst P e h)))
ends_same nodes a b (inr e) (inl f) h =
    let P : ℕ → Type 0 = λ x. AreEqual nodes x b in
    let Q : ℕ → Type 0 = λ y. AreEqual nodes 1 y in
    absurd (ends_differ nodes (AreEqual-sym (subst Q f (subst P e h))))
ends_same nodes a b (inr e) (inr f) h = e ∙ sym f

-- numbers whose nodes and parts are so many steps above the ends have different sets
abbrev pub IsCanonical : ℕ → List Node → ℕ → Type 0
IsCanonical options nodes steps = (a b : ℕ) → options ≤ steps + level options nodes a → options ≤ steps + level options nodes b → a < length nodes + 2 → b < length nodes + 2 → AreEqual nodes a b → a ≡ b

-- a node's set is of no number that asks later options
no_later : {options : ℕ} (steps : ℕ) {nodes : List Node} → IsReducedList options nodes → IsCanonical options nodes steps → (a b : ℕ) (node : Node) → node_of nodes a ≡ Some node → node.option < level options nodes b → options ≤ suc steps + node.option → AreEqual nodes a b → ⊥
no_later {options = options} steps {nodes = nodes} r ih a b node e l m h =
    let n = node_rules r a node e in
    n.differ (ih node.low node.high (omega (arith, m, n.low_later)) (omega (arith, m, n.high_later)) (omega (arith, n.low_falls, n.within)) (omega (arith, n.high_falls, n.within)) (equal_parts r a b node e l h))

-- nodes with equal sets that ask one option are one
same_option : {options : ℕ} (steps : ℕ) {nodes : List Node} → IsReducedList options nodes → IsCanonical options nodes steps → (a b : ℕ) (m n : Node) → node_of nodes a ≡ Some m → node_of nodes b ≡ Some n → m.option ≡ n.option → options ≤ suc steps + m.option → AreEqual nodes a b → a ≡ b
same_option {options = options} steps {nodes = nodes} r ih a b m n e f o l h =
    let p = node_rules r a m e in
    let q = node_rules r b n f in
    let part : (v : Bool) → AreEqual nodes (if v then m.high else m.low) (if v then n.high else n.low) = λ v. record {
      same = λ c. sym (holds-part r a m c v e) ∙ h.same (with_option c m.option v) ∙ ap (λ i. holds nodes b (with_option c i v)) o ∙ holds-part r b n c v f;
    } in
    let low = ih m.low n.low (omega (arith, l, p.low_later)) (omega (arith, l, o, q.low_later)) (omega (arith, p.low_falls, p.within)) (omega (arith, q.low_falls, q.within)) (part false) in
    let high = ih m.high n.high (omega (arith, l, p.high_later)) (omega (arith, l, o, q.high_later)) (omega (arith, p.high_falls, p.within)) (omega (arith, q.high_falls, q.within)) (part true) in
    one_number r a b n (e ∙ ap Some (node_same m n o low high)) f

canonical_steps : {options : ℕ} {nodes : List Node} → IsReducedList options nodes → (steps : ℕ) → IsCanonical options nodes steps
canonical_steps {options = options} {nodes = nodes} r zero a b la lb sa sb h =
    elim (node_cases (node_of nodes a)) [
      | inl na ↦ elim (node_cases (node_of nodes b)) [
        | inl nb ↦ ends_same nodes a b (number_end nodes a sa na) (number_end nodes b sb nb) h
        | inr q ↦
            let here : level options nodes b ≡ q.0.option = ap (option_of options) q.1 in
            absurd (omega (arith, lb, here, (node_rules r b q.0 q.1).in_range))
      ]
      | inr p ↦
          let here : level options nodes a ≡ p.0.option = ap (option_of options) p.1 in
          absurd (omega (arith, la, here, (node_rules r a p.0 p.1).in_range))
    ]
canonical_steps {options = options} {nodes = nodes} r (suc steps) a b la lb sa sb h =
    let ih = canonical_steps r steps in
    elim (node_cases (node_of nodes a)) [
      | inl na ↦
          let end : level options nodes a ≡ options = ap (option_of options) na in
          elim (node_cases (node_of nodes b)) [
            | inl nb ↦ ends_same nodes a b (number_end nodes a sa na) (number_end nodes b sb nb) h
            | inr q ↦
                let here : level options nodes b ≡ q.0.option = ap (option_of options) q.1 in
                absurd (no_later steps r ih b a q.0 q.1 (omega (arith, end, (node_rules r b q.0 q.1).in_range)) (omega (arith, lb, here)) (AreEqual-sym h))
          ]
      | inr p ↦
          let there : level options nodes a ≡ p.0.option = ap (option_of options) p.1 in
          elim (node_cases (node_of nodes b)) [
            | inl nb ↦
                let end : level options nodes b ≡ options = ap (option_of options) nb in
                absurd (no_later steps r ih a b p.0 p.1 (omega (arith, end, (node_rules r a p.0 p.1).in_range)) (omega (arith, la, there)) h)
            | inr q ↦
                let here : level options nodes b ≡ q.0.option = ap (option_of options) q.1 in
                elim (order_cases p.0.option q.0.option) [
                  | inl l ↦ absurd (no_later steps r ih a b p.0 p.1 (omega (arith, here, l)) (omega (arith, la, there)) h)
                  | inr m ↦ elim m [
                    | inl l ↦ absurd (no_later steps r ih b a q.0 q.1 (omega (arith, there, l)) (omega (arith, lb, here)) (AreEqual-sym h))
                    | inr o ↦ same_option steps r ih a b p.0 q.0 p.1 q.1 o (omega (arith, la, there)) h
                  ]
                ]
          ]
    ]

-- equal sets have equal numbers
pub canonical : {options : ℕ} {nodes : List Node} → IsReducedList options nodes → (a b : ℕ) → a < length nodes + 2 → b < length nodes + 2 → ((c : List Bool) → holds nodes a c ≡ holds nodes b c) → a ≡ b
canonical {options = options} r a b l m h = canonical_steps r options a b (omega arith) (omega arith) l m (record { same = h })

-- a set depends on the options alone
walk-options : {options : ℕ} {nodes : List Node} → IsReducedList options nodes → (steps k : ℕ) (c d : List Bool) → AgreeBelow options c d → walk nodes steps k c ≡ walk nodes steps k d
walk-options r zero k c d h = refl
walk-options {nodes = nodes} r (suc steps) k c d h =
    elim (node_cases (node_of nodes k)) [
      | inl n ↦ rw (walk-end nodes (suc steps) k c n, walk-end nodes (suc steps) k d n) refl
      | inr p ↦ rw (p.1, h p.0.option (node_rules r k p.0 p.1).in_range) (walk-options r steps (if value_of d p.0.option then p.0.high else p.0.low) c d h)
    ]

pub holds-options : {options : ℕ} {nodes : List Node} → IsReducedList options nodes → (k : ℕ) (c d : List Bool) → AgreeBelow options c d → holds nodes k c ≡ holds nodes k d
holds-options r k c d h = ap (λ w. nat_eq w 1) (walk-options r k k c d h)
