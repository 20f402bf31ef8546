-- Lists of nodes: sums along the way, what a longer list keeps, and what one node more makes.
use Rattle.std.proofs.Common.{◌≡◌, ◌≢◌, ◌⊎◌, ℕ, ◌+◌, ◌<◌, ◌≤◌, Bool, true, false, List, [], ◌∷◌, ◌++◌, length, refl, sym, ◌∙◌, ap, subst, arith, zero, suc, inl, inr, length-append}
use Rattle.std.specs.Prelude.{Option, Some, None, if◌then◌else◌, slice_get}
use Rattle.std.proofs.lemmas.Option.{slice_get_within}
use Rattle.vx_space.specs.Config.{value_of, with_option}
use Rattle.vx_space.proofs.Configs.{value_of-other}
use Rattle.vx_tally.specs.declared.node.Edge.{Edge}
use Rattle.vx_tally.specs.declared.node.TallyNode.{TallyNode}
use Rattle.vx_tally.specs.Tally.{node_at, edge_of, sum_in, sum_of, edge_at, option_of, level, IsNode, AreNodes}

-- a place has a node or not
pub node_cases : (o : Option TallyNode) → (o ≡ None) ⊎ ((node : TallyNode) × (o ≡ Some node))
node_cases None = inl refl
node_cases (Some node) = inr (node, refl)

pub slice_get-append : {A : Type 0} (xs ys : List A) (k : ℕ) → k < length xs → slice_get (xs ++ ys) k ≡ slice_get xs k
slice_get-append [] ys k l = absurd (omega (arith, l))
slice_get-append (x ∷ xs) ys zero l = refl
slice_get-append (x ∷ xs) ys (suc k) l = slice_get-append xs ys k (omega (arith, l))

pub slice_get-last : {A : Type 0} (xs : List A) (y : A) → slice_get (xs ++ y ∷ []) (length xs) ≡ Some y
slice_get-last [] y = refl
slice_get-last (x ∷ xs) y = slice_get-last xs y

-- a place that has a node is one of the list's
pub node_within : (nodes : List TallyNode) (place : ℕ) (node : TallyNode) → node_at nodes place ≡ Some node → (1 ≤ place) × (place ≤ length nodes)
node_within nodes zero node e = cc
node_within nodes (suc k) node e = (omega arith, omega (arith, slice_get_within nodes k node e))

-- what a longer list keeps
pub node_at-append : (nodes more : List TallyNode) (place : ℕ) → place ≤ length nodes → node_at (nodes ++ more) place ≡ node_at nodes place
node_at-append nodes more zero l = refl
node_at-append nodes more (suc k) l = slice_get-append nodes more k (omega (arith, l))

pub level-append : (options : ℕ) (nodes more : List TallyNode) (place : ℕ) → place ≤ length nodes → level options (nodes ++ more) place ≡ level options nodes place
level-append options nodes more place l = ap (option_of options) (node_at-append nodes more place l)

-- the rules for a place's node
pub node_rules : {options : ℕ} {nodes : List TallyNode} → AreNodes options nodes → (place k : ℕ) (node : TallyNode) → place ≡ suc k → node_at nodes place ≡ Some node → IsNode options nodes k node
node_rules {nodes = nodes} r place k node p e = r.each k node (sym (ap (node_at nodes) p) ∙ e)

-- places fall, and options rise
pub edge_falls : {options : ℕ} {nodes : List TallyNode} → AreNodes options nodes → (place : ℕ) (node : TallyNode) → node_at nodes place ≡ Some node → (b : Bool) → (if b then node.high else node.low).place < place
edge_falls r zero node e b = cc
edge_falls r (suc k) node e true = omega (arith, (r.each k node e).high_given)
edge_falls r (suc k) node e false = omega (arith, (r.each k node e).low_given)

pub edge_later : {options : ℕ} {nodes : List TallyNode} → AreNodes options nodes → (place : ℕ) (node : TallyNode) → node_at nodes place ≡ Some node → (b : Bool) → node.option < level options nodes (if b then node.high else node.low).place
edge_later r zero node e b = cc
edge_later r (suc k) node e true = (r.each k node e).high_later
edge_later r (suc k) node e false = (r.each k node e).low_later

-- with no node nothing is added
pub sum_in-end : (nodes : List TallyNode) (steps : ℕ) (c : List Bool) → sum_in steps nodes 0 c ≡ 0
sum_in-end nodes zero c = refl
sum_in-end nodes (suc steps) c = omega (arith, sum_in-end nodes steps c)

sum_in-none : (nodes : List TallyNode) (steps place : ℕ) (c : List Bool) → node_at nodes place ≡ None → sum_in steps nodes place c ≡ 0
sum_in-none nodes zero place c n = refl
sum_in-none nodes (suc steps) place c n = rw n (omega (arith, sum_in-end nodes steps c))

-- as many steps as the place is high are enough
sum_in-enough : {options : ℕ} {nodes : List TallyNode} → AreNodes options nodes → (s t place : ℕ) (c : List Bool) → place ≤ s → place ≤ t → sum_in s nodes place c ≡ sum_in t nodes place c
sum_in-enough {nodes = nodes} r zero t zero c l m = sym (sum_in-end nodes t c)
sum_in-enough r zero t (suc k) c l m = absurd (omega (arith, l))
sum_in-enough {nodes = nodes} r (suc s) zero zero c l m = sum_in-end nodes (suc s) c
sum_in-enough r (suc s) zero (suc k) c l m = absurd (omega (arith, m))
sum_in-enough {nodes = nodes} r (suc s) (suc t) place c l m =
    elim (node_cases (node_at nodes place)) [
      | inl n ↦ sum_in-none nodes (suc s) place c n ∙ sym (sum_in-none nodes (suc t) place c n)
      | inr p ↦
          let edge = if value_of c p.0.option then p.0.high else p.0.low in
          let falls = edge_falls r place p.0 p.1 (value_of c p.0.option) in
          rw p.1 (ap (λ n. edge.more + n) (sum_in-enough r s t edge.place c (omega (arith, falls, l)) (omega (arith, falls, m))))
    ]

-- from a node on, by the edge that is taken
pub sum-node : {options : ℕ} {nodes : List TallyNode} → AreNodes options nodes → (place : ℕ) (node : TallyNode) (c : List Bool) → node_at nodes place ≡ Some node → sum_of nodes place c ≡ edge_at nodes (if value_of c node.option then node.high else node.low) c
unfolding sum_of
sum-node r zero node c e = cc
sum-node {nodes = nodes} r (suc k) node c e =
    let edge = if value_of c node.option then node.high else node.low in
    let falls = edge_falls r (suc k) node e (value_of c node.option) in
    ap (λ o. (edge_of o c).more + sum_in k nodes (edge_of o c).place c) e ∙ ap (λ n. edge.more + n) (sum_in-enough r k edge.place edge.place c (omega (arith, falls)) (omega arith))

pub sum-end : (nodes : List TallyNode) (c : List Bool) → sum_of nodes 0 c ≡ 0
unfolding sum_of
sum-end nodes c = refl

-- a longer list keeps the sums of its first places
sum_in-append : {options : ℕ} {nodes : List TallyNode} → AreNodes options nodes → (more : List TallyNode) (steps place : ℕ) (c : List Bool) → place ≤ length nodes → sum_in steps (nodes ++ more) place c ≡ sum_in steps nodes place c
sum_in-append r more zero place c l = refl
sum_in-append {nodes = nodes} r more (suc steps) place c l =
    elim (node_cases (node_at nodes place)) [
      | inl n ↦ sum_in-none (nodes ++ more) (suc steps) place c (node_at-append nodes more place l ∙ n) ∙ sym (sum_in-none nodes (suc steps) place c n)
      | inr p ↦
          let edge = if value_of c p.0.option then p.0.high else p.0.low in
          let falls = edge_falls r place p.0 p.1 (value_of c p.0.option) in
          rw (node_at-append nodes more place l, p.1) (ap (λ n. edge.more + n) (sum_in-append r more steps edge.place c (omega (arith, falls, l))))
    ]

pub sum-append : {options : ℕ} {nodes : List TallyNode} → AreNodes options nodes → (more : List TallyNode) (place : ℕ) (c : List Bool) → place ≤ length nodes → sum_of (nodes ++ more) place c ≡ sum_of nodes place c
unfolding sum_of
sum-append r more place c l = sum_in-append r more place place c l

pub edge_at-append : {options : ℕ} {nodes : List TallyNode} → AreNodes options nodes → (more : List TallyNode) (edge : Edge) (c : List Bool) → edge.place ≤ length nodes → edge_at (nodes ++ more) edge c ≡ edge_at nodes edge c
edge_at-append r more edge c l = ap (λ n. edge.more + n) (sum-append r more edge.place c l)

-- a place adds the same whatever an option before its own is
sum_in-free : {options : ℕ} {nodes : List TallyNode} → AreNodes options nodes → (steps place option : ℕ) (value : Bool) (c : List Bool) → option < level options nodes place → sum_in steps nodes place (with_option c option value) ≡ sum_in steps nodes place c
sum_in-free r zero place option value c l = refl
sum_in-free {options = options} {nodes = nodes} r (suc steps) place option value c l =
    elim (node_cases (node_at nodes place)) [
      | inl n ↦ sum_in-none nodes (suc steps) place (with_option c option value) n ∙ sym (sum_in-none nodes (suc steps) place c n)
      | inr p ↦
          let edge = if value_of c p.0.option then p.0.high else p.0.low in
          let here : level options nodes place ≡ p.0.option = ap (option_of options) p.1 in
          let less : option < p.0.option = omega (arith, l, here) in
          let later = edge_later r place p.0 p.1 (value_of c p.0.option) in
          rw (p.1, value_of-other c option p.0.option value (λ e. omega (arith, less, e))) (ap (λ n. edge.more + n) (sum_in-free r steps edge.place option value c (omega (arith, less, later))))
    ]

pub sum-free : {options : ℕ} {nodes : List TallyNode} → AreNodes options nodes → (place option : ℕ) (value : Bool) (c : List Bool) → option < level options nodes place → sum_of nodes place (with_option c option value) ≡ sum_of nodes place c
unfolding sum_of
sum-free r place option value c l = sum_in-free r place place option value c l

-- no nodes, and one more behind others
pub AreNodes-none : (options : ℕ) → AreNodes options []
AreNodes-none options = record { each = λ k node e. cc; once = λ j k node e f. cc }

IsNode-append : {options : ℕ} {nodes : List TallyNode} (more : List TallyNode) (k : ℕ) (node : TallyNode) → k ≤ length nodes → IsNode options nodes k node → IsNode options (nodes ++ more) k node
IsNode-append {options = options} {nodes = nodes} more k node l n = record {
  in_range = n.in_range;
  low_given = n.low_given;
  high_given = n.high_given;
  low_later = omega (arith, n.low_later, level-append options nodes more node.low.place (omega (arith, n.low_given, l)));
  high_later = omega (arith, n.high_later, level-append options nodes more node.high.place (omega (arith, n.high_given, l)));
  least = n.least;
  differ = n.differ;
}

-- where an item of a list with one more stands
pub last_or_before : {A : Type 0} (xs : List A) (x other : A) (k : ℕ) → slice_get (xs ++ x ∷ []) k ≡ Some other → ((k < length xs) × (slice_get xs k ≡ Some other)) ⊎ ((k ≡ length xs) × (other ≡ x))
last_or_before [] x other zero e = inr (refl, some_is e)
  where
    some_is : Some x ≡ Some other → other ≡ x
    some_is e = cc
last_or_before [] x other (suc k) e = cc
last_or_before (y ∷ xs) x other zero e = inl (omega arith, e)
last_or_before (y ∷ xs) x other (suc k) e = elim (last_or_before xs x other k e) [
  | inl p ↦ inl (omega (arith, p.0), p.1)
  | inr p ↦ inr (ap suc p.0, p.1)
]

pub AreNodes-put : {options : ℕ} {nodes : List TallyNode} → AreNodes options nodes → (node : TallyNode) → IsNode options nodes (length nodes) node → ((k : ℕ) → slice_get nodes k ≡ Some node → ⊥) → AreNodes options (nodes ++ node ∷ [])
AreNodes-put {options = options} {nodes = nodes} r node n none = record {
  each = λ k other e. one k other (last_or_before nodes node other k e);
  once = λ j k other e f. two j k other (last_or_before nodes node other j e) (last_or_before nodes node other k f);
}
  where
    one : (k : ℕ) (other : TallyNode) → ((k < length nodes) × (slice_get nodes k ≡ Some other)) ⊎ ((k ≡ length nodes) × (other ≡ node)) → IsNode options (nodes ++ node ∷ []) k other
    one k other (inl p) = IsNode-append (node ∷ []) k other (omega (arith, p.0)) (r.each k other p.1)
    one k other (inr p) =
        let P : ℕ → Type 0 = λ i. IsNode options (nodes ++ node ∷ []) i other in
        let Q : TallyNode → Type 0 = λ x. IsNode options (nodes ++ node ∷ []) (length nodes) x in
        subst P (sym p.0) (subst Q (sym p.1) (IsNode-append (node ∷ []) (length nodes) node (omega arith) n))

    two : (j k : ℕ) (other : TallyNode) → ((j < length nodes) × (slice_get nodes j ≡ Some other)) ⊎ ((j ≡ length nodes) × (other ≡ node)) → ((k < length nodes) × (slice_get nodes k ≡ Some other)) ⊎ ((k ≡ length nodes) × (other ≡ node)) → j ≡ k
    two j k other (inl p) (inl q) = r.once j k other p.1 q.1
    two j k other (inl p) (inr q) = absurd (none j (p.1 ∙ ap Some q.1))
    two j k other (inr p) (inl q) = absurd (none k (q.1 ∙ ap Some p.1))
    two j k other (inr p) (inr q) = p.0 ∙ sym q.0
