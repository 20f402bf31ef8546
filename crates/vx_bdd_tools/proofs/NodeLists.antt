-- Lists of nodes: what a longer list keeps, and where a number's set comes from.
use Rattle.std.proofs.Common.{◌≡◌, ◌⊎◌, ℕ, ◌+◌, ◌-◌, ◌<◌, ◌≤◌, Bool, true, false, List, [], ◌∷◌, ◌++◌, length, take, refl, sym, ◌∙◌, ap, subst, arith, zero, suc, inl, inr, length-append}
use Rattle.std.specs.Prelude.{Option, Some, None, if◌then◌else◌, nat_eq, slice_get}
use Rattle.std.proofs.lemmas.List.{take-append-le}
use Rattle.std.proofs.lemmas.Option.{slice_get_within}
use Rattle.vx_space.specs.Config.{value_of}
use Rattle.vx_bdd_tools.specs.declared.node.Node.{Node}
use Rattle.vx_bdd_tools.specs.Nodes.{node_of, child, walk, holds, level, option_of, IsNextNode, IsReducedList}
use Rattle.vx_bdd_tools.specs.Numbering.{Numbers}

-- a number has a node or not
pub node_cases : (o : Option Node) → (o ≡ None) ⊎ ((node : Node) × (o ≡ Some node))
node_cases None = inl refl
node_cases (Some node) = inr (node, refl)

-- a number that has a node is among those of the list
pub node_within : (nodes : List Node) (k : ℕ) (node : Node) → node_of nodes k ≡ Some node → (2 ≤ k) × (k < length nodes + 2)
node_within nodes zero node e = cc
node_within nodes (suc zero) node e = cc
node_within nodes (suc (suc place)) node e = (omega arith, omega (arith, slice_get_within nodes place node e))

slice_get-append : {A : Type 0} (xs ys : List A) (place : ℕ) → place < length xs → slice_get (xs ++ ys) place ≡ slice_get xs place
slice_get-append [] ys place l = absurd (omega (arith, l))
slice_get-append (x ∷ xs) ys zero l = refl
slice_get-append (x ∷ xs) ys (suc place) l = slice_get-append xs ys place (omega (arith, l))

slice_get-last : {A : Type 0} (xs : List A) (y : A) → slice_get (xs ++ y ∷ []) (length xs) ≡ Some y
slice_get-last [] y = refl
slice_get-last (x ∷ xs) y = slice_get-last xs y

-- a longer list keeps what its first numbers have
pub node_of-append : (nodes more : List Node) (k : ℕ) → k < length nodes + 2 → node_of (nodes ++ more) k ≡ node_of nodes k
node_of-append nodes more zero l = refl
node_of-append nodes more (suc zero) l = refl
node_of-append nodes more (suc (suc place)) l = slice_get-append nodes more place (omega (arith, l))

pub node_of-last : (nodes : List Node) (node : Node) (k : ℕ) → k ≡ length nodes + 2 → node_of (nodes ++ node ∷ []) k ≡ Some node
node_of-last nodes node zero e = absurd (omega (arith, e))
node_of-last nodes node (suc zero) e = absurd (omega (arith, e))
node_of-last nodes node (suc (suc place)) e =
    let here : place ≡ length nodes = omega (arith, e) in
    ap (slice_get (nodes ++ node ∷ [])) here ∙ slice_get-last nodes node

-- the rules for a number's node
pub next_node : {options : ℕ} {nodes : List Node} → IsReducedList options nodes → (k : ℕ) (node : Node) → node_of nodes k ≡ Some node → IsNextNode options (take (k - 2) nodes) node
next_node r zero node e = cc
next_node r (suc zero) node e = cc
next_node {options = options} {nodes = nodes} r (suc (suc place)) node e =
    let same : suc (suc place) - 2 ≡ place = omega arith in
    let P : ℕ → Type 0 = λ i. IsNextNode options (take i nodes) node in
    subst P (sym same) (r.each place node e)

length-take-at_most : {A : Type 0} (n : ℕ) (xs : List A) → length (take n xs) ≤ n
length-take-at_most zero xs = omega arith
length-take-at_most (suc n) [] = omega arith
length-take-at_most (suc n) (x ∷ xs) = omega (arith, length-take-at_most n xs)

-- numbers fall from a node to its parts
pub part_falls : {options : ℕ} {nodes : List Node} → IsReducedList options nodes → (k : ℕ) (node : Node) → node_of nodes k ≡ Some node → (b : Bool) → (if b then node.high else node.low) < k
part_falls {nodes = nodes} r k node e true = omega (arith, (next_node r k node e).high_given, length-take-at_most (k - 2) nodes, (node_within nodes k node e).0)
part_falls {nodes = nodes} r k node e false = omega (arith, (next_node r k node e).low_given, length-take-at_most (k - 2) nodes, (node_within nodes k node e).0)

-- with no node the walk stays
pub walk-end : (nodes : List Node) (steps k : ℕ) (c : List Bool) → node_of nodes k ≡ None → walk nodes steps k c ≡ k
walk-end nodes zero k c n = refl
walk-end nodes (suc steps) k c n = rw n (walk-end nodes steps k c n)

-- as many steps as the number says are enough
pub walk-enough : {options : ℕ} {nodes : List Node} → IsReducedList options nodes → (s t k : ℕ) (c : List Bool) → k ≤ s → k ≤ t → walk nodes s k c ≡ walk nodes t k c
walk-enough {nodes = nodes} r zero t zero c l m = sym (walk-end nodes t 0 c refl)
walk-enough r zero t (suc k) c l m = absurd (omega (arith, l))
walk-enough {nodes = nodes} r (suc s) zero zero c l m = walk-end nodes (suc s) 0 c refl
walk-enough r (suc s) zero (suc k) c l m = absurd (omega (arith, m))
walk-enough {nodes = nodes} r (suc s) (suc t) k c l m =
    elim (node_cases (node_of nodes k)) [
      | inl n ↦ walk-end nodes (suc s) k c n ∙ sym (walk-end nodes (suc t) k c n)
      | inr p ↦
          let falls = part_falls r k p.0 p.1 (value_of c p.0.option) in
          rw p.1 (walk-enough r s t (if value_of c p.0.option then p.0.high else p.0.low) c (omega (arith, falls, l)) (omega (arith, falls, m)))
    ]

-- a node holds a configuration where the part that it takes does
pub holds-node : {options : ℕ} {nodes : List Node} → IsReducedList options nodes → (k : ℕ) (node : Node) (c : List Bool) → node_of nodes k ≡ Some node → holds nodes k c ≡ holds nodes (if value_of c node.option then node.high else node.low) c
holds-node r zero node c e = cc
holds-node {nodes = nodes} r (suc k) node c e =
    let part = if value_of c node.option then node.high else node.low in
    let falls = part_falls r (suc k) node e (value_of c node.option) in
    ap (λ w. nat_eq w 1) (ap (λ o. walk nodes k (child o (suc k) c) c) e ∙ walk-enough r k part part c (omega (arith, falls)) (omega arith))

-- a longer list keeps the sets of its first numbers
pub walk-append : {options : ℕ} {nodes : List Node} → IsReducedList options nodes → (more : List Node) (steps k : ℕ) (c : List Bool) → k < length nodes + 2 → walk (nodes ++ more) steps k c ≡ walk nodes steps k c
walk-append r more zero k c l = refl
walk-append {nodes = nodes} r more (suc steps) k c l =
    elim (node_cases (node_of nodes k)) [
      | inl n ↦ walk-end (nodes ++ more) (suc steps) k c (node_of-append nodes more k l ∙ n) ∙ sym (walk-end nodes (suc steps) k c n)
      | inr p ↦
          let falls = part_falls r k p.0 p.1 (value_of c p.0.option) in
          rw (node_of-append nodes more k l, p.1) (walk-append r more steps (if value_of c p.0.option then p.0.high else p.0.low) c (omega (arith, falls, l)))
    ]

pub holds-append : {options : ℕ} {nodes : List Node} → IsReducedList options nodes → (more : List Node) (k : ℕ) (c : List Bool) → k < length nodes + 2 → holds (nodes ++ more) k c ≡ holds nodes k c
holds-append r more k c l = ap (λ w. nat_eq w 1) (walk-append r more k k c l)

pub level-append : (options : ℕ) (nodes more : List Node) (k : ℕ) → k < length nodes + 2 → level options (nodes ++ more) k ≡ level options nodes k
level-append options nodes more k l = ap (option_of options) (node_of-append nodes more k l)

-- the empty list is reduced, and so is one more node that may follow
pub IsReducedList-none : (options : ℕ) → IsReducedList options []
IsReducedList-none options = record { each = λ place node e. cc }

pub IsReducedList-append : {options : ℕ} {nodes : List Node} {node : Node} → IsReducedList options nodes → IsNextNode options nodes node → IsReducedList options (nodes ++ node ∷ [])
IsReducedList-append {options = options} {nodes = nodes} {node = node} r n = record { each = λ place other e. cases place other e (order place (length nodes)) }
  where
    order : (a b : ℕ) → (a < b) ⊎ (a ≡ b) ⊎ (b < a)
    order zero zero = inr (inl refl)
    order zero (suc b) = inl (omega arith)
    order (suc a) zero = inr (inr (omega arith))
    order (suc a) (suc b) = elim (order a b) [
      | inl l ↦ inl (omega (arith, l))
      | inr m ↦ elim m [ inl e ↦ inr (inl (ap suc e)) | inr l ↦ inr (inr (omega (arith, l))) ]
    ]

    cases : (place : ℕ) (other : Node) → slice_get (nodes ++ node ∷ []) place ≡ Some other → (place < length nodes) ⊎ (place ≡ length nodes) ⊎ (length nodes < place) → IsNextNode options (take place (nodes ++ node ∷ [])) other
    cases place other e (inl l) =
        let P : List Node → Type 0 = λ before. IsNextNode options before other in
        subst P (sym (take-append-le place nodes (node ∷ []) (omega (arith, l)))) (r.each place other (sym (slice_get-append nodes (node ∷ []) place l) ∙ e))
    cases place other e (inr (inl l)) =
        let same : node ≡ other = cc (slice_get-last nodes node, l, e) in
        let before : take place (nodes ++ node ∷ []) ≡ nodes = ap (λ i. take i (nodes ++ node ∷ [])) l ∙ take-append-le (length nodes) nodes (node ∷ []) (omega arith) ∙ take_whole nodes in
        let P : List Node → Type 0 = λ b. IsNextNode options b other in
        let Q : Node → Type 0 = λ x. IsNextNode options nodes x in
        subst P (sym before) (subst Q same n)
      where
        take_whole : (xs : List Node) → take (length xs) xs ≡ xs
        take_whole [] = refl
        take_whole (x ∷ xs) = ap (λ t. x ∷ t) (take_whole xs)
    cases place other e (inr (inr l)) = absurd (omega (arith, l, slice_get_within (nodes ++ node ∷ []) place other e, length-append nodes (node ∷ [])))

-- a longer list keeps a numbering
pub Numbers-append : (nodes more : List Node) (n k m : ℕ) → Numbers nodes n k m → Numbers (nodes ++ more) n k m
Numbers-append nodes more n k m (Numbers.given _ _ l) = Numbers.given n k l
Numbers-append nodes more n k m (Numbers.made _ _ between node l e low high) =
    Numbers.made n k between node l (node_of-append nodes more k (node_within nodes k node e).1 ∙ e) (Numbers-append nodes more n node.low between low) (Numbers-append nodes more between node.high k high)
