-- The options on which a set depends are those that its nodes ask.
use Rattle.std.proofs.Common.{◌≡◌, ◌≢◌, ◌⊎◌, ℕ, ◌+◌, ◌<◌, ◌≤◌, Bool, true, false, List, [], ◌∷◌, ◌++◌, length, refl, sym, ◌∙◌, ap, subst, arith, zero, suc, inl, inr, length-append}
use Rattle.std.specs.Prelude.{Some, if◌then◌else◌, nat_eq, nat_lt, slice_get, slice_index, slice_index_or, Contains, ◌==◌, ◌||◌}
use Rattle.std.specs.List.{list_any}
use Rattle.std.specs.List.Sorted.{IsStrictlyIncreasing}
use Rattle.std.proofs.lemmas.Bool.Decides.{nat_tests}
use Rattle.std.proofs.lemmas.List.Elements.{Contains-append_left, Contains-append_right, Contains-append_cases}
use Rattle.vx_space.specs.Config.{value_of, with_option}
use Rattle.vx_space.specs.Under.{Depends}
use Rattle.vx_space.specs.Sets.{Sets, IsLawful}
use Rattle.vx_space.proofs.Configs.{value_of-other}
use Rattle.vx_space.proofs.Differences.{some_difference}
use Rattle.vx_bdd_tools.specs.declared.node.Node.{Node}
use Rattle.vx_bdd_tools.specs.Nodes.{node_of, walk, holds, level, IsReducedList}
use Rattle.vx_bdd_tools.specs.Numbering.{Numbers, NumbersAll}
use Rattle.vx_bdd_tools.specs.Listing.{IsListing}
use Rattle.vx_bdd_tools.specs.Support.{IsSupport}
use Rattle.vx_bdd_tools.proofs.Walks.{swap_values}
use Rattle.vx_bdd_tools.proofs.NodeLists.{node_cases, node_within, walk-end}
use Rattle.vx_bdd_tools.proofs.NodeSets.{node_rules, part_later, order_cases, holds-free, holds-part, holds-options, canonical}
use Rattle.vx_space.specs.MaskLaws.{known_lt}

-- the sets that the numbers of a list hold
abbrev list_sets : ℕ → List Node → Sets ℕ
list_sets options nodes = record {
  options = options;
  never = 0;
  always = 1;
  is_known = λ k. nat_lt k (length nodes + 2);
  test = holds nodes;
  counts = false;
  count = 0;
  base = 0;
}

lt_known : (m n : ℕ) → m < n → nat_lt m n ≡ true
lt_known m n l = grind (arith, nat_tests)

lawful_list : {options : ℕ} {nodes : List Node} → options < 65 → IsReducedList options nodes → IsLawful (list_sets options nodes)
lawful_list {options = options} {nodes = nodes} few r = record {
  at_most_64 = few;
  never_known = lt_known 0 (length nodes + 2) (omega arith);
  never_test = λ c. refl;
  always_known = lt_known 1 (length nodes + 2) (omega arith);
  always_test = λ c. refl;
  equal_sets = λ a b s t h. canonical r a b (known_lt a (length nodes + 2) s) (known_lt b (length nodes + 2) t) h;
  options_alone = λ a c d s h. holds-options r a c d h;
  counted = λ e. cc;
}

-- a node's set depends on its option
pub depends_here : {options : ℕ} {nodes : List Node} → options < 65 → IsReducedList options nodes → (k : ℕ) (node : Node) → node_of nodes k ≡ Some node → Depends (holds nodes k) node.option
depends_here {options = options} {nodes = nodes} few r k node e =
    let n = node_rules r k node e in
    let d = some_difference (lawful_list few r) node.high node.low (lt_known node.high (length nodes + 2) (omega (arith, n.high_falls, n.within))) (lt_known node.low (length nodes + 2) (omega (arith, n.low_falls, n.within))) (λ q. n.differ (sym q)) in
    (d.0, λ q. d.1 (sym (holds-part r k node d.0 true e) ∙ q ∙ holds-part r k node d.0 false e))

-- it depends on the options on which its parts do
pub depends_above : {options : ℕ} {nodes : List Node} → IsReducedList options nodes → (k : ℕ) (node : Node) → node_of nodes k ≡ Some node → (b : Bool) (o : ℕ) → Depends (holds nodes (if b then node.high else node.low)) o → Depends (holds nodes k) o
depends_above {nodes = nodes} r k node e b o d =
    let c = d.0 in
    let part = if b then node.high else node.low in
    let later = part_later (node_rules r k node e) b in
    let other : o ≢ node.option = λ q.
    let below : o < level _ nodes part = omega (arith, later, q) in
    d.1 (holds-free r part c o true below ∙ sym (holds-free r part c o false below)) in
    let through : (v : Bool) → holds nodes k (with_option (with_option c node.option b) o v) ≡ holds nodes part (with_option c o v) = λ v.
    sym (holds-options r k (with_option (with_option c o v) node.option b) (with_option (with_option c node.option b) o v) (λ m l. swap_values c node.option o m b v other))
    ∙ holds-part r k node (with_option c o v) b e in
    (with_option c node.option b, λ q. d.1 (sym (through true) ∙ q ∙ through false))

-- a root's set depends on the option of each node that it numbers
depends_all : {options : ℕ} {nodes : List Node} → options < 65 → IsReducedList options nodes → (n k m : ℕ) → Numbers nodes n k m → (j : ℕ) (x : Node) → n ≤ j → j < m → node_of nodes j ≡ Some x → Depends (holds nodes k) x.option
depends_all few r n k m (Numbers.given _ _ h) j x l1 l2 e = absurd (omega (arith, l1, l2))
depends_all {nodes = nodes} few r n k m (Numbers.made _ _ between node h here low high) j x l1 l2 e = elim (order_cases j k) [
  | inl below ↦ elim (split j between) [
    | inl first ↦ depends_above r k node here false x.option (depends_all few r n node.low between low j x l1 first e)
    | inr second ↦ depends_above r k node here true x.option (depends_all few r between node.high k high j x second below e)
  ]
  | inr rest ↦ elim rest [
    | inl above ↦ absurd (omega (arith, l2, above))
    | inr q ↦
        let same : node ≡ x = cc (here, ap (node_of nodes) q, e) in
        let P : Node → Type 0 = λ y. Depends (holds nodes k) y.option in
        subst P same (depends_here few r k node here)
  ]
]
  where
    split : (a b : ℕ) → (a < b) ⊎ (b ≤ a)
    split zero zero = inr (omega arith)
    split zero (suc b) = inl (omega arith)
    split (suc a) zero = inr (omega arith)
    split (suc a) (suc b) = elim (split a b) [ inl l ↦ inl (omega (arith, l)) | inr l ↦ inr (omega (arith, l)) ]

-- an option that some node asks, and one that none does
asked_somewhere : (nodes : List Node) (o : ℕ) → list_any (λ node. node.option == o) nodes ≡ true → (place : ℕ) × (node : Node) × (slice_get nodes place ≡ Some node) × (node.option ≡ o)
asked_somewhere [] o e = cc (e)
asked_somewhere (x ∷ nodes) o e = here (asked_somewhere nodes o) (x.option == o) refl
  where
    here : (list_any (λ node. node.option == o) nodes ≡ true → (place : ℕ) × (node : Node) × (slice_get nodes place ≡ Some node) × (node.option ≡ o)) → (b : Bool) → (x.option == o) ≡ b → (place : ℕ) × (node : Node) × (slice_get (x ∷ nodes) place ≡ Some node) × (node.option ≡ o)
    here later true q = (0, x, refl, grind (arith, nat_tests))
    here later false q =
        let rest = later (sym (ap (λ b. b || list_any (λ node. node.option == o) nodes) q) ∙ e) in
        (suc rest.0, rest.1, rest.2, rest.3)

asked_nowhere : (nodes : List Node) (o : ℕ) → list_any (λ node. node.option == o) nodes ≡ false → (place : ℕ) (node : Node) → slice_get nodes place ≡ Some node → node.option ≢ o
asked_nowhere [] o e place node h = cc (h)
asked_nowhere (x ∷ nodes) o e zero node h = here (x.option == o) refl
  where
    here : (b : Bool) → (x.option == o) ≡ b → node.option ≢ o
    here true q = λ s. cc (ap (λ b. b || list_any (λ y. y.option == o) nodes) q, e)
    here false q = λ s.
        let same : x ≡ node = cc (h) in
        let equal : x.option ≡ o = ap (λ y. y.option) same ∙ s in
        absurd (unlike x.option o q equal)
      where
        unlike : (a b : ℕ) → (a == b) ≡ false → a ≡ b → ⊥
        unlike a b f g = grind (arith, nat_tests)
asked_nowhere (x ∷ nodes) o e (suc place) node h = asked_nowhere nodes o (rest (x.option == o) (list_any (λ y. y.option == o) nodes) e) place node h
  where
    rest : (a b : Bool) → (a || b) ≡ false → b ≡ false
    rest true b f = cc (f)
    rest false b f = f

-- the list's one root
one_root : {I : Type 0} (sets : Sets I) (id : I) (nodes : List Node) (roots : List ℕ) → IsListing sets (id ∷ []) nodes roots → (k : ℕ) × ((c : List Bool) → holds nodes k c ≡ sets.test id c) × Numbers nodes 2 k (length nodes + 2)
one_root sets id nodes [] h = absurd h.hold
one_root sets id nodes (k ∷ []) h = (k, h.hold.0, ends (length nodes + 2) h.numbered.numbered)
  where
    ends : (m : ℕ) → NumbersAll nodes 2 (k ∷ []) m → Numbers nodes 2 k m
    ends m (NumbersAll.first _ _ between _ _ here rest) = last between m here rest
      where
        last : (b p : ℕ) → Numbers nodes 2 k b → NumbersAll nodes b [] p → Numbers nodes 2 k p
        last b p d (NumbersAll.none _) = d
one_root sets id nodes (k ∷ j ∷ roots) h = absurd h.hold.1

Depends-same : (f g : List Bool → Bool) (o : ℕ) → ((c : List Bool) → f c ≡ g c) → Depends f o → Depends g o
Depends-same f g o h d = (d.0, λ q. d.1 (h (with_option d.0 o true) ∙ q ∙ sym (h (with_option d.0 o false))))

-- the set depends on an option that a node asks
pub depends_asked : {I : Type 0} {sets : Sets I} → IsLawful sets → (id : I) (nodes : List Node) (roots : List ℕ) (o : ℕ) → IsListing sets (id ∷ []) nodes roots → list_any (λ node. node.option == o) nodes ≡ true → Depends (sets.test id) o
depends_asked {sets = sets} lawful id nodes roots o h e =
    let root = one_root sets id nodes roots h in
    let there = asked_somewhere nodes o e in
    let d = depends_all lawful.at_most_64 h.numbered.reduced 2 root.0 (length nodes + 2) root.2 (suc (suc there.0)) there.1 (omega arith) (node_within nodes (suc (suc there.0)) there.1 there.2).1 there.2 in
    let P : ℕ → Type 0 = λ i. Depends (sets.test id) i in
    subst P there.3 (Depends-same (holds nodes root.0) (sets.test id) there.1.option root.1 d)

-- the walk doesn't read an option that no node asks
walk-unasked : (nodes : List Node) (o : ℕ) → ((place : ℕ) (node : Node) → slice_get nodes place ≡ Some node → node.option ≢ o) → (steps k : ℕ) (c : List Bool) (b : Bool) → walk nodes steps k (with_option c o b) ≡ walk nodes steps k c
walk-unasked nodes o h zero k c b = refl
walk-unasked nodes o h (suc steps) k c b =
    elim (node_cases (node_of nodes k)) [
      | inl n ↦ rw (walk-end nodes (suc steps) k c n, walk-end nodes (suc steps) k (with_option c o b) n) refl
      | inr p ↦ rw (p.1, value_of-other c o p.0.option b (λ q. at k p.0 p.1 (sym q))) (walk-unasked nodes o h steps (if value_of c p.0.option then p.0.high else p.0.low) c b)
    ]
  where
    at : (j : ℕ) (node : Node) → node_of nodes j ≡ Some node → node.option ≢ o
    at zero node e = cc (e)
    at (suc zero) node e = cc (e)
    at (suc (suc place)) node e = h place node e

-- the set doesn't depend on an option that no node asks
pub free_unasked : {I : Type 0} {sets : Sets I} (id : I) (nodes : List Node) (roots : List ℕ) (o : ℕ) → IsListing sets (id ∷ []) nodes roots → list_any (λ node. node.option == o) nodes ≡ false → Depends (sets.test id) o → ⊥
free_unasked {sets = sets} id nodes roots o h e d =
    let root = one_root sets id nodes roots h in
    let none = asked_nowhere nodes o e in
    let same : (v : Bool) → sets.test id (with_option d.0 o v) ≡ sets.test id d.0 = λ v. sym (root.1 (with_option d.0 o v)) ∙ ap (λ w. nat_eq w 1) (walk-unasked nodes o none root.0 root.0 d.0 v) ∙ root.1 d.0 in
    d.1 (same true ∙ sym (same false))

-- the options below i on which a set depends
pub record IsSupportBelow (set : List Bool → Bool) (i : ℕ) (options : List ℕ) : Type 0 where
  pub ascending : IsStrictlyIncreasing options
  pub below : (j : ℕ) → Contains options j → j < i
  pub each : (j : ℕ) → Contains options j → Depends set j
  pub all : (j : ℕ) → j < i → Depends set j → Contains options j

pub IsSupportBelow-none : (set : List Bool → Bool) → IsSupportBelow set 0 []
IsSupportBelow-none set = record {
  ascending = λ k l. absurd (omega (arith, l));
  below = λ j p. absurd (omega (arith, p.1));
  each = λ j p. absurd (omega (arith, p.1));
  all = λ j l d. absurd (omega (arith, l));
}

slice_index-append_left : (xs ys : List ℕ) (k : ℕ) → k < length xs → slice_index (xs ++ ys) k ≡ slice_index xs k
slice_index-append_left [] ys k l = absurd (omega (arith, l))
slice_index-append_left (x ∷ xs) ys zero l = refl
slice_index-append_left (x ∷ xs) ys (suc k) l = slice_index-append_left xs ys k (omega (arith, l))

slice_index-last : (xs : List ℕ) (y k : ℕ) → k ≡ length xs → slice_index (xs ++ y ∷ []) k ≡ y
slice_index-last [] y zero e = refl
slice_index-last [] y (suc k) e = absurd (omega (arith, e))
slice_index-last (x ∷ xs) y zero e = absurd (omega (arith, e))
slice_index-last (x ∷ xs) y (suc k) e = slice_index-last xs y k (omega (arith, e))

Contains-slice_index : (xs : List ℕ) (k : ℕ) → k < length xs → Contains xs (slice_index xs k)
Contains-slice_index [] k l = absurd (omega (arith, l))
Contains-slice_index (x ∷ xs) zero l = (0, omega arith, refl)
Contains-slice_index (x ∷ xs) (suc k) l =
    let rest = Contains-slice_index xs k (omega (arith, l)) in
    (suc rest.0, omega (arith, rest.1), rest.2)

only_one : (x y : ℕ) → Contains (x ∷ []) y → x ≡ y
only_one x y p = at p.0 p.1 p.2
  where
    at : (k : ℕ) → k < 1 → slice_index_or (x ∷ []) k y ≡ y → x ≡ y
    at zero l e = e
    at (suc k) l e = absurd (omega (arith, l))

-- one option further: it is asked, or not
pub IsSupportBelow-asked : (set : List Bool → Bool) (i : ℕ) (options : List ℕ) → IsSupportBelow set i options → Depends set i → IsSupportBelow set (i + 1) (options ++ i ∷ [])
IsSupportBelow-asked set i options h d = record {
  ascending = λ k l. ascends k l (split (k + 1) (length options));
  below = λ j p. elim (Contains-append_cases options (i ∷ []) j p) [
    | inl q ↦ omega (arith, h.below j q)
    | inr q ↦ omega (arith, only_one i j q)
  ];
  each = λ j p. elim (Contains-append_cases options (i ∷ []) j p) [
    | inl q ↦ h.each j q
    | inr q ↦
        let P : ℕ → Type 0 = λ x. Depends set x in
        subst P (only_one i j q) d
  ];
  all = λ j l e. elim (split j i) [
    | inl m ↦ Contains-append_left options (i ∷ []) j (h.all j m e)
    | inr m ↦
        let same : i ≡ j = omega (arith, l, m) in
        let P : ℕ → Type 0 = λ x. Contains (options ++ i ∷ []) x in
        subst P same (Contains-append_right options (i ∷ []) i (0, omega arith, refl))
  ];
}
  where
    split : (a b : ℕ) → (a < b) ⊎ (b ≤ a)
    split zero zero = inr (omega arith)
    split zero (suc b) = inl (omega arith)
    split (suc a) zero = inr (omega arith)
    split (suc a) (suc b) = elim (split a b) [ inl l ↦ inl (omega (arith, l)) | inr l ↦ inr (omega (arith, l)) ]

    ascends : (k : ℕ) → k + 1 < length (options ++ i ∷ []) → (k + 1 < length options) ⊎ (length options ≤ k + 1) → slice_index (options ++ i ∷ []) k < slice_index (options ++ i ∷ []) (k + 1)
    ascends k l (inl m) = omega (arith, slice_index-append_left options (i ∷ []) k (omega (arith, m)), slice_index-append_left options (i ∷ []) (k + 1) m, h.ascending k m)
    ascends k l (inr m) =
        let last : k + 1 ≡ length options = omega (arith, m, l, length-append options (i ∷ [])) in
        omega (arith, slice_index-append_left options (i ∷ []) k (omega (arith, last)), slice_index-last options i (k + 1) last, h.below (slice_index options k) (Contains-slice_index options k (omega (arith, last))))

pub IsSupportBelow-unasked : (set : List Bool → Bool) (i : ℕ) (options : List ℕ) → IsSupportBelow set i options → (Depends set i → ⊥) → IsSupportBelow set (i + 1) options
IsSupportBelow-unasked set i options h n = record {
  ascending = h.ascending;
  below = λ j p. omega (arith, h.below j p);
  each = h.each;
  all = λ j l d. elim (order_cases j i) [
    | inl m ↦ h.all j m d
    | inr m ↦ elim m [
      | inl k ↦ absurd (omega (arith, l, k))
      | inr q ↦
          let P : ℕ → Type 0 = λ x. Depends set x in
          absurd (n (subst P q d))
    ]
  ];
}

-- a known set depends on no option past the last
pub IsSupport-of : {I : Type 0} {sets : Sets I} → IsLawful sets → (id : I) (i : ℕ) (options : List ℕ) → sets.is_known id ≡ true → sets.options ≤ i → IsSupportBelow (sets.test id) i options → IsSupport (sets.test id) options
IsSupport-of {sets = sets} lawful id i options k l h = record {
  ascending = h.ascending;
  each = h.each;
  all = λ j d. elim (order_cases j i) [
    | inl m ↦ h.all j m d
    | inr m ↦ absurd (past j d (later j m))
  ];
}
  where
    later : (j : ℕ) → (i < j) ⊎ (j ≡ i) → sets.options ≤ j
    later j (inl m) = omega (arith, l, m)
    later j (inr m) = omega (arith, l, m)

    past : (j : ℕ) → Depends (sets.test id) j → sets.options ≤ j → ⊥
    past j d m = d.1 (lawful.options_alone id (with_option d.0 j true) (with_option d.0 j false) k (λ x n.
        let other : j ≢ x = omega (arith, m, n) in
        value_of-other d.0 j x true other ∙ sym (value_of-other d.0 j x false other)))
