-- Equal sets have equal ids, in a reduced table.
use Rattle.std.proofs.Common.{◌≡◌, ◌≢◌, ◌⊎◌, ℕ, ◌+◌, ◌<◌, ◌≤◌, Bool, true, false, List, [], refl, sym, ◌∙◌, ap, subst, arith, zero, suc, inl, inr}
use Rattle.std.specs.Prelude.{Option, Some, None, if◌then◌else◌, nat_eq}
use Rattle.vx_space.specs.Config.{value_of, with_option, AgreeBelow}
use Rattle.vx_space.proofs.Configs.{value_of-same, value_of-other}
use Rattle.vx_bdd.specs.declared.node.Node.{Node}
use Rattle.vx_bdd.specs.Diagram.{node_at, child, walk, reaches, is_stored, level_of, level, IsNode, IsReduced}
use Rattle.vx_bdd_tools.proofs.NodeSets.{order_cases}

-- an id has a node or not
pub node_cases : (o : Option Node) → (o ≡ None) ⊎ ((node : Node) × (o ≡ Some node))
node_cases None = inl refl
node_cases (Some node) = inr (node, refl)

-- with no node the walk stays
pub walk-end : (slots : List (Option Node)) (steps id : ℕ) (c : List Bool) → node_at slots id ≡ None → walk slots steps id c ≡ id
walk-end slots zero id c n = refl
walk-end slots (suc steps) id c n = rw n (walk-end slots steps id c n)

-- one step more is a step at the end
pub walk-suc : (slots : List (Option Node)) (steps id : ℕ) (c : List Bool) → walk slots (suc steps) id c ≡ child (node_at slots (walk slots steps id c)) (walk slots steps id c) c
walk-suc slots zero id c = refl
walk-suc slots (suc steps) id c = walk-suc slots steps (child (node_at slots id) id c) c

-- the parts of a node are stored, and ask later options
part_stored : {options : ℕ} {slots : List (Option Node)} {node : Node} → IsNode options slots node → (b : Bool) → is_stored slots (if b then node.high else node.low) ≡ true
part_stored n true = n.high_stored
part_stored n false = n.low_stored

part_later : {options : ℕ} {slots : List (Option Node)} {node : Node} → IsNode options slots node → (b : Bool) → node.option < level slots options (if b then node.high else node.low)
part_later n true = n.high_later
part_later n false = n.low_later

-- after enough steps there is no node
pub walk-ends : {options : ℕ} {slots : List (Option Node)} → IsReduced options slots → (steps id : ℕ) (c : List Bool) → options ≤ steps + level slots options id → node_at slots (walk slots steps id c) ≡ None
walk-ends {options = options} {slots = slots} r zero id c l =
    elim (node_cases (node_at slots id)) [
      | inl n ↦ n
      | inr p ↦
          let here : level slots options id ≡ p.0.option = ap (level_of options) p.1 in
          absurd (omega (arith, l, here, (r.nodes id p.0 p.1).in_range))
    ]
walk-ends {options = options} {slots = slots} r (suc steps) id c l =
    elim (node_cases (node_at slots id)) [
      | inl n ↦ rw (walk-end slots (suc steps) id c n) n
      | inr p ↦
          let here : level slots options id ≡ p.0.option = ap (level_of options) p.1 in
          let later = part_later (r.nodes id p.0 p.1) (value_of c p.0.option) in
          rw p.1 (walk-ends r steps (if value_of c p.0.option then p.0.high else p.0.low) c (omega (arith, l, here, later)))
    ]

-- one step more changes nothing then
pub walk-more : {options : ℕ} {slots : List (Option Node)} → IsReduced options slots → (steps id : ℕ) (c : List Bool) → options ≤ steps + level slots options id → walk slots (suc steps) id c ≡ walk slots steps id c
walk-more {slots = slots} r steps id c l = walk-suc slots steps id c ∙ ap (λ o. child o (walk slots steps id c) c) (walk-ends r steps id c l)

-- whether a node reaches always is whether the part that the configuration takes does
pub reaches-node : {options : ℕ} {slots : List (Option Node)} → IsReduced options slots → (id : ℕ) (node : Node) (c : List Bool) → node_at slots id ≡ Some node → reaches slots options id c ≡ reaches slots options (if value_of c node.option then node.high else node.low) c
reaches-node {options = zero} {slots = slots} r id node c e = absurd (omega (arith, (r.nodes id node e).in_range))
reaches-node {options = suc steps} {slots = slots} r id node c e =
    let next = if value_of c node.option then node.high else node.low in
    let later = part_later (r.nodes id node e) (value_of c node.option) in
    let enough : suc steps ≤ steps + level slots (suc steps) next = omega (arith, later) in
    ap (λ w. nat_eq w 1) (ap (λ o. walk slots steps (child o id c) c) e ∙ sym (walk-more r steps next c enough))

-- the walk doesn't read options below an id's level
pub walk-free : {options : ℕ} {slots : List (Option Node)} → IsReduced options slots → (steps id : ℕ) (c : List Bool) (j : ℕ) (b : Bool) → j < level slots options id → walk slots steps id (with_option c j b) ≡ walk slots steps id c
walk-free r zero id c j b l = refl
walk-free {options = options} {slots = slots} r (suc steps) id c j b l =
    elim (node_cases (node_at slots id)) [
      | inl n ↦ rw (walk-end slots (suc steps) id c n, walk-end slots (suc steps) id (with_option c j b) n) refl
      | inr p ↦
          let here : level slots options id ≡ p.0.option = ap (level_of options) p.1 in
          let other : j ≢ p.0.option = omega (arith, l, here) in
          let later = part_later (r.nodes id p.0 p.1) (value_of c p.0.option) in
          rw (p.1, value_of-other c j p.0.option b other) (walk-free r steps (if value_of c p.0.option then p.0.high else p.0.low) c j b (omega (arith, l, here, later)))
    ]

pub reaches-free : {options : ℕ} {slots : List (Option Node)} → IsReduced options slots → (id : ℕ) (c : List Bool) (j : ℕ) (b : Bool) → j < level slots options id → reaches slots options id (with_option c j b) ≡ reaches slots options id c
reaches-free {options = options} r id c j b l = ap (λ w. nat_eq w 1) (walk-free r options id c j b l)

-- an option set on or off takes a node to its part
pub reaches-part : {options : ℕ} {slots : List (Option Node)} → IsReduced options slots → (id : ℕ) (node : Node) (c : List Bool) (b : Bool) → node_at slots id ≡ Some node → reaches slots options id (with_option c node.option b) ≡ reaches slots options (if b then node.high else node.low) c
reaches-part {options = options} {slots = slots} r id node c b e =
    reaches-node r id node (with_option c node.option b) e
    ∙ ap (λ v. reaches slots options (if v then node.high else node.low) (with_option c node.option b)) (value_of-same c node.option b)
    ∙ reaches-free r (if b then node.high else node.low) c node.option b (part_later (r.nodes id node e) b)

-- the two ids have equal sets
pub record AreEqual (options : ℕ) (slots : List (Option Node)) (a b : ℕ) : Type 0 where
  pub same : (c : List Bool) → reaches slots options a c ≡ reaches slots options b c

-- where a node's set is that of an id which asks later options, its parts have equal sets
equal_parts : {options : ℕ} {slots : List (Option Node)} → IsReduced options slots → (a b : ℕ) (node : Node) → node_at slots a ≡ Some node → node.option < level slots options b → AreEqual options slots a b → AreEqual options slots node.low node.high
equal_parts r a b node e l h = record {
  same = λ c.
      sym (reaches-part r a node c false e) ∙ h.same (with_option c node.option false) ∙ reaches-free r b c node.option false l
      ∙ sym (reaches-free r b c node.option true l) ∙ sym (h.same (with_option c node.option true)) ∙ reaches-part r a node c true e;
}

-- equal nodes, by their fields
pub node_same : (m n : Node) → m.option ≡ n.option → m.low ≡ n.low → m.high ≡ n.high → m ≡ n
node_same m n e f g =
    let make : ℕ → ℕ → ℕ → Node = λ o l h. record { option = o; low = l; high = h } in
    ap (λ o. make o m.low m.high) e ∙ ap (λ l. make n.option l m.high) f ∙ ap (λ h. make n.option n.low h) g

pub stored_end : {options : ℕ} {slots : List (Option Node)} → IsReduced options slots → (id : ℕ) → is_stored slots id ≡ true → node_at slots id ≡ None → (id ≡ 0) ⊎ (id ≡ 1)
stored_end r zero s n = inl refl
stored_end r (suc zero) s n = inr refl
stored_end r (suc (suc k)) s n = cc (s, n)

-- in a reduced table equal sets have equal ids, of ids with so many levels below
abbrev pub IsCanonical : ℕ → List (Option Node) → ℕ → Type 0
IsCanonical options slots steps = (a b : ℕ) → options ≤ steps + level slots options a → options ≤ steps + level slots options b → is_stored slots a ≡ true → is_stored slots b ≡ true → AreEqual options slots a b → a ≡ b

AreEqual-sym : {options : ℕ} {slots : List (Option Node)} {a b : ℕ} → AreEqual options slots a b → AreEqual options slots b a
AreEqual-sym h = record { same = λ c. sym (h.same c) }

ends_differ : (options : ℕ) (slots : List (Option Node)) → AreEqual options slots 0 1 → ⊥
ends_differ options slots h = cc (sym (ap (λ w. nat_eq w 1) (walk-end slots options 0 [] refl)) ∙ h.same [] ∙ ap (λ w. nat_eq w 1) (walk-end slots options 1 [] refl))

ends_same : (options : ℕ) (slots : List (Option Node)) (a b : ℕ) → (a ≡ 0) ⊎ (a ≡ 1) → (b ≡ 0) ⊎ (b ≡ 1) → AreEqual options slots a b → a ≡ b
ends_same options slots a b (inl e) (inl f) h = e ∙ sym f
ends_same options slots a b (inl e) (inr f) h =
    let P : ℕ → Type 0 = λ x. AreEqual options slots x b in
    let Q : ℕ → Type 0 = λ y. AreEqual options slots 0 y in
    absurd (ends_differ options slots (subst Q f (subst P e h)))
ends_same options slots a b (inr e) (inl f) h =
    let P : ℕ → Type 0 = λ x. AreEqual options slots x b in
    let Q : ℕ → Type 0 = λ y. AreEqual options slots 1 y in
    absurd (ends_differ options slots (AreEqual-sym (subst Q f (subst P e h))))
ends_same options slots a b (inr e) (inr f) h = e ∙ sym f

-- a node's set is of no id that asks later options
no_later : {options : ℕ} (steps : ℕ) {slots : List (Option Node)} → IsReduced options slots → IsCanonical options slots steps → (a b : ℕ) (node : Node) → node_at slots a ≡ Some node → node.option < level slots options b → options ≤ suc steps + node.option → AreEqual options slots a b → ⊥
no_later {options = options} steps {slots = slots} r ih a b node e l m h =
    let n = r.nodes a node e in
    n.differ (ih node.low node.high (omega (arith, m, n.low_later)) (omega (arith, m, n.high_later)) n.low_stored n.high_stored (equal_parts r a b node e l h))

-- nodes with equal sets that ask one option are one
same_option : {options : ℕ} (steps : ℕ) {slots : List (Option Node)} → IsReduced options slots → IsCanonical options slots steps → (a b : ℕ) (m n : Node) → node_at slots a ≡ Some m → node_at slots b ≡ Some n → m.option ≡ n.option → options ≤ suc steps + m.option → AreEqual options slots a b → a ≡ b
same_option {options = options} steps {slots = slots} r ih a b m n e f o l h =
    let p = r.nodes a m e in
    let q = r.nodes b n f in
    let part : (v : Bool) → AreEqual options slots (if v then m.high else m.low) (if v then n.high else n.low) = λ v. record {
      same = λ c.
          sym (reaches-part r a m c v e) ∙ h.same (with_option c m.option v) ∙ ap (λ i. reaches slots options b (with_option c i v)) o ∙ reaches-part r b n c v f;
    } in
    let low = ih m.low n.low (omega (arith, l, p.low_later)) (omega (arith, l, o, q.low_later)) p.low_stored q.low_stored (part false) in
    let high = ih m.high n.high (omega (arith, l, p.high_later)) (omega (arith, l, o, q.high_later)) p.high_stored q.high_stored (part true) in
    r.distinct a b n (e ∙ ap Some (node_same m n o low high)) f

pub canonical : {options : ℕ} {slots : List (Option Node)} → IsReduced options slots → (steps : ℕ) → IsCanonical options slots steps
canonical {options = options} {slots = slots} r zero a b la lb sa sb h =
    elim (node_cases (node_at slots a)) [
      | inl na ↦ elim (node_cases (node_at slots b)) [
        | inl nb ↦ ends_same options slots a b (stored_end r a sa na) (stored_end r b sb nb) h
        | inr q ↦
            let here : level slots options b ≡ q.0.option = ap (level_of options) q.1 in
            absurd (omega (arith, lb, here, (r.nodes b q.0 q.1).in_range))
      ]
      | inr p ↦
          let here : level slots options a ≡ p.0.option = ap (level_of options) p.1 in
          absurd (omega (arith, la, here, (r.nodes a p.0 p.1).in_range))
    ]
canonical {options = options} {slots = slots} r (suc steps) a b la lb sa sb h =
    let ih = canonical r steps in
    elim (node_cases (node_at slots a)) [
      | inl na ↦
          let end : level slots options a ≡ options = ap (level_of options) na in
          elim (node_cases (node_at slots b)) [
            | inl nb ↦ ends_same options slots a b (stored_end r a sa na) (stored_end r b sb nb) h
            | inr q ↦
                let here : level slots options b ≡ q.0.option = ap (level_of options) q.1 in
                absurd (no_later steps r ih b a q.0 q.1 (omega (arith, end, (r.nodes b q.0 q.1).in_range)) (omega (arith, lb, here)) (AreEqual-sym h))
          ]
      | inr p ↦
          let there : level slots options a ≡ p.0.option = ap (level_of options) p.1 in
          elim (node_cases (node_at slots b)) [
            | inl nb ↦
                let end : level slots options b ≡ options = ap (level_of options) nb in
                absurd (no_later steps r ih a b p.0 p.1 (omega (arith, end, (r.nodes a p.0 p.1).in_range)) (omega (arith, la, there)) h)
            | inr q ↦
                let here : level slots options b ≡ q.0.option = ap (level_of options) q.1 in
                elim (order_cases p.0.option q.0.option) [
                  | inl l ↦ absurd (no_later steps r ih a b p.0 p.1 (omega (arith, here, l)) (omega (arith, la, there)) h)
                  | inr m ↦ elim m [
                    | inl l ↦ absurd (no_later steps r ih b a q.0 q.1 (omega (arith, there, l)) (omega (arith, lb, here)) (AreEqual-sym h))
                    | inr o ↦ same_option steps r ih a b p.0 q.0 p.1 q.1 o (omega (arith, la, there)) h
                  ]
                ]
          ]
    ]

-- a set depends on the options alone
pub walk-options : {options : ℕ} {slots : List (Option Node)} → IsReduced options slots → (steps id : ℕ) (c d : List Bool) → AgreeBelow options c d → walk slots steps id c ≡ walk slots steps id d
walk-options r zero id c d h = refl
walk-options {slots = slots} r (suc steps) id c d h =
    elim (node_cases (node_at slots id)) [
      | inl n ↦ rw (walk-end slots (suc steps) id c n, walk-end slots (suc steps) id d n) refl
      | inr p ↦ rw (p.1, h p.0.option (r.nodes id p.0 p.1).in_range) (walk-options r steps (if value_of d p.0.option then p.0.high else p.0.low) c d h)
    ]
