-- Edges into one list of nodes that have the same number at each configuration are one.
use Rattle.std.proofs.Common.{◌≡◌, ◌⊎◌, ℕ, ◌+◌, ◌<◌, ◌≤◌, Bool, true, false, List, [], length, get_or, refl, sym, ◌∙◌, ap, arith, zero, suc, inl, inr}
use Rattle.std.specs.Prelude.{Some, min, slice_get, if◌then◌else◌}
use Rattle.std.proofs.lemmas.Option.{slice_get-get_or}
use Rattle.vx_space.specs.Config.{value_of, with_option}
use Rattle.vx_space.proofs.Configs.{value_of-same}
use Rattle.vx_tally.specs.declared.node.Edge.{Edge}
use Rattle.vx_tally.specs.declared.node.TallyNode.{TallyNode}
use Rattle.vx_tally.specs.Tally.{node_at, edge_at, sum_of, level, option_of, IsNode, AreNodes}
use Rattle.vx_tally.specs.Canonical.{EqualNumbersAreOneEdge}
use Rattle.vx_tally.proofs.NodeLaws.{sum-node, sum-end, sum-free}

no_node : TallyNode
no_node = record { option = 0; low = record { place = 0; more = 0 }; high = record { place = 0; more = 0 } }

which : (a b : ℕ) → min a b ≡ 0 → (a ≡ 0) ⊎ (b ≡ 0)
which zero b e = inl refl
which (suc a) zero e = inr refl
which (suc a) (suc b) e = absurd (omega (arith, e))

order : (a b : ℕ) → (a < b) ⊎ (a ≡ b) ⊎ (b < a)
order zero zero = inr (inl refl)
order zero (suc b) = inl (omega arith)
order (suc a) zero = inr (inr (omega arith))
order (suc a) (suc b) = elim (order a b) [
  | inl l ↦ inl (omega (arith, l))
  | inr m ↦ elim m [ inl e ↦ inr (inl (ap suc e)) | inr l ↦ inr (inr (omega (arith, l))) ]
]

-- an edge of a node, by the value of its option
side_of : TallyNode → Bool → Edge
side_of node true = node.high
side_of node false = node.low

module _ {options : ℕ} {nodes : List TallyNode} (r : AreNodes options nodes) where
  -- what a node adds where its option has a value
  side-number : (k : ℕ) (node : TallyNode) → slice_get nodes k ≡ Some node → (c : List Bool) (value : Bool) → sum_of nodes (suc k) (with_option c node.option value) ≡ edge_at nodes (side_of node value) c
  unfolding side_of
  side-number k node e c true = sum-node r (suc k) node (with_option c node.option true) e ∙ ap (λ b. edge_at nodes (if b then node.high else node.low) (with_option c node.option true)) (value_of-same c node.option true) ∙ ap (λ n. node.high.more + n) (sum-free r node.high.place node.option true c (r.each k node e).high_later)
  side-number k node e c false = sum-node r (suc k) node (with_option c node.option false) e ∙ ap (λ b. edge_at nodes (if b then node.high else node.low) (with_option c node.option false)) (value_of-same c node.option false) ∙ ap (λ n. node.low.more + n) (sum-free r node.low.place node.option false c (r.each k node e).low_later)

  -- each place adds nothing at some configuration
  zero_at : (bound place : ℕ) → place ≤ bound → place ≤ length nodes → (c : List Bool) × (sum_of nodes place c ≡ 0)
  unfolding side_of
  zero_at bound zero l m = ([], sum-end nodes [])
  zero_at zero (suc k) l m = absurd (omega (arith, l))
  zero_at (suc bound) (suc k) l m =
      let node = get_or nodes k no_node in
      let e : slice_get nodes k ≡ Some node = slice_get-get_or nodes k no_node (omega (arith, m)) in
      let rules = r.each k node e in
      elim (which node.low.more node.high.more rules.least) [
        | inl z ↦
            let below = zero_at bound node.low.place (omega (arith, l, rules.low_given)) (omega (arith, m, rules.low_given)) in
            (with_option below.0 node.option false, side-number k node e below.0 false ∙ omega (arith, z, below.1))
        | inr z ↦
            let below = zero_at bound node.high.place (omega (arith, l, rules.high_given)) (omega (arith, m, rules.high_given)) in
            (with_option below.0 node.option true, side-number k node e below.0 true ∙ omega (arith, z, below.1))
      ]

  -- so edges of the same numbers add the same at once, and the same from there on
  same_more : (e f : Edge) → e.place ≤ length nodes → f.place ≤ length nodes → ((c : List Bool) → edge_at nodes e c ≡ edge_at nodes f c) → e.more ≡ f.more
  same_more e f l m h =
      let p = zero_at e.place e.place (omega arith) l in
      let q = zero_at f.place f.place (omega arith) m in
      let one = h p.0 in
      let other = h q.0 in
      omega (arith, p.1, q.1, one, other)

  same_sums : (e f : Edge) → e.place ≤ length nodes → f.place ≤ length nodes → ((c : List Bool) → edge_at nodes e c ≡ edge_at nodes f c) → (c : List Bool) → sum_of nodes e.place c ≡ sum_of nodes f.place c
  same_sums e f l m h c =
      let here = h c in
      omega (arith, here, same_more e f l m h)

  edge_is : (e f : Edge) → e.place ≡ f.place → e.more ≡ f.more → e ≡ f
  edge_is e f p m = λ i. record { place = p i; more = m i }

  -- places up to a bound with the same sums are one
  abbrev Same : ℕ → Type 0
  Same bound = (p q : ℕ) → p ≤ bound → q ≤ bound → p ≤ length nodes → q ≤ length nodes → ((c : List Bool) → sum_of nodes p c ≡ sum_of nodes q c) → p ≡ q

  same_edge : (bound : ℕ) → Same bound → (e f : Edge) → e.place ≤ bound → f.place ≤ bound → e.place ≤ length nodes → f.place ≤ length nodes → ((c : List Bool) → edge_at nodes e c ≡ edge_at nodes f c) → e ≡ f
  same_edge bound same e f a b l m h = edge_is e f (same e.place f.place a b l m (same_sums e f l m h)) (same_more e f l m h)

  -- a node's sums depend on its option
  depends : (bound k : ℕ) → Same bound → (node : TallyNode) → slice_get nodes k ≡ Some node → k ≤ bound → suc k ≤ length nodes → ((c : List Bool) → sum_of nodes (suc k) (with_option c node.option false) ≡ sum_of nodes (suc k) (with_option c node.option true)) → ⊥
  unfolding side_of
  depends bound k same node e b m h =
      let rules = r.each k node e in
      rules.differ (same_edge bound same node.low node.high (omega (arith, b, rules.low_given)) (omega (arith, b, rules.high_given)) (omega (arith, m, rules.low_given)) (omega (arith, m, rules.high_given)) (λ c. sym (side-number k node e c false) ∙ h c ∙ side-number k node e c true))

  -- two nodes of one option whose sums are the same are one
  same_node : (bound j k : ℕ) → Same bound → (one other : TallyNode) → slice_get nodes j ≡ Some one → slice_get nodes k ≡ Some other → j ≤ bound → k ≤ bound → suc j ≤ length nodes → suc k ≤ length nodes → ((c : List Bool) → sum_of nodes (suc j) c ≡ sum_of nodes (suc k) c) → one.option ≡ other.option → one ≡ other
  unfolding side_of
  same_node bound j k same one other e f a b l m h o =
      let p = r.each j one e in
      let q = r.each k other f in
      let low = same_edge bound same one.low other.low (omega (arith, a, p.low_given)) (omega (arith, b, q.low_given)) (omega (arith, l, p.low_given)) (omega (arith, m, q.low_given)) (λ c. sym (side-number j one e c false) ∙ h (with_option c one.option false) ∙ ap (λ i. sum_of nodes (suc k) (with_option c i false)) o ∙ side-number k other f c false) in
      let high = same_edge bound same one.high other.high (omega (arith, a, p.high_given)) (omega (arith, b, q.high_given)) (omega (arith, l, p.high_given)) (omega (arith, m, q.high_given)) (λ c. sym (side-number j one e c true) ∙ h (with_option c one.option true) ∙ ap (λ i. sum_of nodes (suc k) (with_option c i true)) o ∙ side-number k other f c true) in
      λ i. record { option = o i; low = low i; high = high i }

  -- a place whose node asks a later option doesn't depend on one
  later_free : (k : ℕ) (other : TallyNode) → slice_get nodes k ≡ Some other → (option : ℕ) → option < other.option → (c : List Bool) (value : Bool) → sum_of nodes (suc k) (with_option c option value) ≡ sum_of nodes (suc k) c
  later_free k other f option l c value =
      let here : level options nodes (suc k) ≡ other.option = ap (option_of options) f in
      sum-free r (suc k) option value c (omega (arith, l, here))

  both : (bound j k : ℕ) → Same bound → (one other : TallyNode) → slice_get nodes j ≡ Some one → slice_get nodes k ≡ Some other → j ≤ bound → k ≤ bound → suc j ≤ length nodes → suc k ≤ length nodes → ((c : List Bool) → sum_of nodes (suc j) c ≡ sum_of nodes (suc k) c) → (one.option < other.option) ⊎ (one.option ≡ other.option) ⊎ (other.option < one.option) → j ≡ k
  both bound j k same one other e f a b l m h (inl o) = absurd (depends bound j same one e a l (λ c. h (with_option c one.option false) ∙ later_free k other f one.option o c false ∙ sym (later_free k other f one.option o c true) ∙ sym (h (with_option c one.option true))))
  both bound j k same one other e f a b l m h (inr (inl o)) = r.once j k one e (f ∙ ap Some (sym (same_node bound j k same one other e f a b l m h o)))
  both bound j k same one other e f a b l m h (inr (inr o)) = absurd (depends bound k same other f b m (λ c. sym (h (with_option c other.option false)) ∙ later_free j one e other.option o c false ∙ sym (later_free j one e other.option o c true) ∙ h (with_option c other.option true)))

  -- no node adds nothing everywhere
  no_end : (bound k : ℕ) → Same bound → k ≤ bound → suc k ≤ length nodes → ((c : List Bool) → sum_of nodes (suc k) c ≡ 0) → ⊥
  no_end bound k same b m h =
      let node = get_or nodes k no_node in
      let e : slice_get nodes k ≡ Some node = slice_get-get_or nodes k no_node (omega (arith, m)) in
      depends bound k same node e b m (λ c. h (with_option c node.option false) ∙ sym (h (with_option c node.option true)))

  same_place : (bound : ℕ) → Same bound
  same_place bound zero zero a b l m h = refl
  same_place zero zero (suc k) a b l m h = absurd (omega (arith, b))
  same_place zero (suc j) q a b l m h = absurd (omega (arith, a))
  same_place (suc bound) zero (suc k) a b l m h = absurd (no_end bound k (same_place bound) (omega (arith, b)) m (λ c. sym (h c) ∙ sum-end nodes c))
  same_place (suc bound) (suc j) zero a b l m h = absurd (no_end bound j (same_place bound) (omega (arith, a)) l (λ c. h c ∙ sum-end nodes c))
  same_place (suc bound) (suc j) (suc k) a b l m h =
      let one = get_or nodes j no_node in
      let other = get_or nodes k no_node in
      let e : slice_get nodes j ≡ Some one = slice_get-get_or nodes j no_node (omega (arith, l)) in
      let f : slice_get nodes k ≡ Some other = slice_get-get_or nodes k no_node (omega (arith, m)) in
      ap suc (both bound j k (same_place bound) one other e f (omega (arith, a)) (omega (arith, b)) l m h (order one.option other.option))

pub one_edge : EqualNumbersAreOneEdge
one_edge options nodes e f r l m h =
    let bound = e.place + f.place in
    same_edge r bound (same_place r bound) e f (omega arith) (omega arith) l m h
