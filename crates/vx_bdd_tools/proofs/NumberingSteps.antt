-- One step of a numbering: an id that has a number, an end, a node after its parts.
use Rattle.std.proofs.Common.{◌≡◌, ◌≢◌, ◌⊎◌, ℕ, ◌+◌, ◌<◌, ◌≤◌, Bool, true, false, List, [], ◌∷◌, ◌++◌, length, map, get_or, refl, sym, ◌∙◌, ap, subst, arith, zero, suc, inl, inr, length-append, append_assoc}
use Rattle.std.specs.Prelude.{Option, Some, None, if◌then◌else◌, slice_get, Contains, slice_index_or}
use Rattle.std.proofs.lemmas.List.{append-nil}
use Rattle.vx_space.specs.Config.{value_of}
use Rattle.vx_space.specs.Under.{IsLeastOption}
use Rattle.vx_space.specs.Sets.{Sets, IsLawful, IsTop, AreKnown}
use Rattle.vx_bdd_tools.specs.declared.node.Node.{Node}
use Rattle.vx_bdd_tools.specs.Nodes.{node_of, holds, level, option_of, IsNextNode, IsReducedList}
use Rattle.vx_bdd_tools.specs.Numbering.{Numbers, NumbersAll, HoldAll}
use Rattle.vx_bdd_tools.specs.Listing.{IsListing}
use Rattle.vx_bdd_tools.specs.Steps.{IsFreeBelow, IsGiven, IsListed, IsNumberOf, IsNumberingStep}
use Rattle.vx_bdd_tools.proofs.Walks.{part_here, part_free}
use Rattle.vx_bdd_tools.proofs.NodeLists.{node_of-last, holds-node, holds-append, level-append, IsReducedList-append, IsReducedList-none, Numbers-append}

-- an order of two numbers
order : (a b : ℕ) → (a < b) ⊎ (b ≤ a)
order zero zero = inr (omega arith)
order zero (suc b) = inl (omega arith)
order (suc a) zero = inr (omega arith)
order (suc a) (suc b) = elim (order a b) [ inl l ↦ inl (omega (arith, l)) | inr l ↦ inr (omega (arith, l)) ]

-- an option on which a set depends isn't among those on which it doesn't
depends_later : {I : Type 0} {sets : Sets I} (id : I) (i o : ℕ) → IsFreeBelow sets id i → IsLeastOption (sets.test id) o → i ≤ o
depends_later id i o f l = elim (order o i) [
  | inl m ↦ absurd (l.depends.1 (f.free o m l.depends.0))
  | inr m ↦ m
]

-- the least option comes after those on which the set doesn't depend
pub first_at_most : {I : Type 0} {sets : Sets I} (id low high : I) (first i : ℕ) → IsFreeBelow sets id first → IsTop sets id i low high → first ≤ i
first_at_most id low high first i f t = depends_later id first i f t.least

-- the parts don't depend on the option that is fixed
pub IsFreeBelow-low : {I : Type 0} {sets : Sets I} → IsLawful sets → (id low high : I) (i : ℕ) → sets.is_known id ≡ true → IsTop sets id i low high → IsFreeBelow sets low (i + 1)
IsFreeBelow-low lawful id low high i k t = record { free = part_free lawful id low i false k t.off t.least.free_below }

pub IsFreeBelow-high : {I : Type 0} {sets : Sets I} → IsLawful sets → (id low high : I) (i : ℕ) → sets.is_known id ≡ true → IsTop sets id i low high → IsFreeBelow sets high (i + 1)
IsFreeBelow-high lawful id low high i k t = record { free = part_free lawful id high i true k t.on t.least.free_below }

pub IsFreeBelow-none : {I : Type 0} (sets : Sets I) (id : I) → IsFreeBelow sets id 0
IsFreeBelow-none sets id = record { free = λ j l. absurd (omega (arith, l)) }

IsFreeBelow-less : {I : Type 0} {sets : Sets I} (id : I) (first i : ℕ) → first ≤ i → IsFreeBelow sets id i → IsFreeBelow sets id first
IsFreeBelow-less id first i l f = record { free = λ j m. f.free j (omega (arith, m, l)) }

-- a number of a list is one of a longer list
IsGiven-append : {I : Type 0} {sets : Sets I} {nodes : List Node} → IsReducedList sets.options nodes → (more : List Node) (id : I) (k : ℕ) → IsGiven sets nodes id k → IsGiven sets (nodes ++ more) id k
IsGiven-append {sets = sets} {nodes = nodes} r more id k h =
    let P : ℕ → Type 0 = λ o. IsLeastOption (sets.test id) o in
    record {
      known = h.known;
      inner = h.inner;
      below = omega (arith, h.below, length-append nodes more);
      hold = λ c. holds-append r more k c h.below ∙ h.hold c;
      least = subst P (sym (level-append sets.options nodes more k h.below)) h.least;
    }

pub IsNumberOf-append : {I : Type 0} {sets : Sets I} {nodes : List Node} → IsReducedList sets.options nodes → (more : List Node) (id : I) (k : ℕ) → IsNumberOf sets nodes id k → IsNumberOf sets (nodes ++ more) id k
IsNumberOf-append {sets = sets} {nodes = nodes} r more id k h = record {
  below = omega (arith, h.below, length-append nodes more);
  hold = λ c. holds-append r more k c h.below ∙ h.hold c;
  later = λ i l f. omega (arith, h.later i l f, level-append sets.options nodes more k h.below);
}

-- a number that is given is one of the id
IsNumberOf-given : {I : Type 0} {sets : Sets I} {nodes : List Node} (id : I) (k : ℕ) → IsGiven sets nodes id k → IsNumberOf sets nodes id k
IsNumberOf-given {sets = sets} {nodes = nodes} id k h = record {
  below = h.below;
  hold = h.hold;
  later = λ i l f. depends_later id i (level sets.options nodes k) f h.least;
}

-- nothing is numbered at the start
pub IsListed-none : {I : Type 0} (sets : Sets I) (number : I → Option ℕ) → ((id : I) → number id ≡ None) → IsListed sets [] number
IsListed-none sets number none = record {
  reduced = IsReducedList-none sets.options;
  given = λ id k e. cc (none id, e);
  all = λ place l. absurd (omega (arith, l));
}

-- nothing changes where the number is there
stays : {I : Type 0} {sets : Sets I} (first : ℕ) (id : I) (nodes : List Node) (number : I → Option ℕ) (k : ℕ) → IsListed sets nodes number → IsNumberOf sets nodes id k → IsNumberingStep sets first id nodes nodes number number k
stays first id nodes number k l n = record {
  listed = l;
  more = [];
  grows = sym (append-nil nodes);
  number_of = n;
  numbers = Numbers.given (length nodes + 2) k n.below;
  adds = λ x j e. inl e;
}

pub IsNumberingStep-given : {I : Type 0} {sets : Sets I} (first : ℕ) (id : I) (nodes : List Node) (number : I → Option ℕ) (k : ℕ) → IsListed sets nodes number → number id ≡ Some k → IsNumberingStep sets first id nodes nodes number number k
IsNumberingStep-given first id nodes number k l e = stays first id nodes number k l (IsNumberOf-given id k (l.given id k e))

-- never and always
IsNumberingStep-never : {I : Type 0} {sets : Sets I} → IsLawful sets → (first : ℕ) (id : I) (nodes : List Node) (number : I → Option ℕ) (k : ℕ) → IsListed sets nodes number → id ≡ sets.never → k ≡ 0 → IsNumberingStep sets first id nodes nodes number number k
IsNumberingStep-never {sets = sets} lawful first id nodes number k l e z =
    let P : ℕ → Type 0 = λ x. IsNumberOf sets nodes id x in
    let here : IsNumberOf sets nodes id 0 = record {
      below = omega arith;
      hold = λ c. sym (ap (λ x. sets.test x c) e ∙ lawful.never_test c);
      later = λ i m f. m;
    } in
    stays first id nodes number k l (subst P (sym z) here)

IsNumberingStep-always : {I : Type 0} {sets : Sets I} → IsLawful sets → (first : ℕ) (id : I) (nodes : List Node) (number : I → Option ℕ) (k : ℕ) → IsListed sets nodes number → id ≡ sets.always → k ≡ 1 → IsNumberingStep sets first id nodes nodes number number k
IsNumberingStep-always {sets = sets} lawful first id nodes number k l e z =
    let P : ℕ → Type 0 = λ x. IsNumberOf sets nodes id x in
    let here : IsNumberOf sets nodes id 1 = record {
      below = omega arith;
      hold = λ c. sym (ap (λ x. sets.test x c) e ∙ lawful.always_test c);
      later = λ i m f. m;
    } in
    stays first id nodes number k l (subst P (sym z) here)

pub IsNumberingStep-end : {I : Type 0} {sets : Sets I} → IsLawful sets → (first : ℕ) (id : I) (nodes : List Node) (number : I → Option ℕ) (k : ℕ) → IsListed sets nodes number → (id ≡ sets.never) ⊎ (id ≡ sets.always) → (id ≡ sets.never → k ≡ 0) → (id ≢ sets.never → k ≡ 1) → IsNumberingStep sets first id nodes nodes number number k
IsNumberingStep-end lawful first id nodes number k l (inl e) p q = IsNumberingStep-never lawful first id nodes number k l e (p e)
IsNumberingStep-end {sets = sets} lawful first id nodes number k l (inr e) p q = IsNumberingStep-always lawful first id nodes number k l e (q (λ f.
    cc (lawful.always_test [], lawful.never_test [], ap (λ x. sets.test x []) (sym e ∙ f))))

-- where an id that depends on option i has no number, it has none after its parts were numbered
still_none : {I : Type 0} {sets : Sets I} (id low high : I) (i : ℕ) (number number' : I → Option ℕ) → IsTop sets id i low high → ((x : I) (j : ℕ) → number' x ≡ Some j → (number x ≡ Some j) ⊎ IsFreeBelow sets x (i + 1)) → ((j : ℕ) → number id ≡ Some j → ⊥) → (j : ℕ) → number' id ≡ Some j → ⊥
still_none id low high i number number' t adds none j e = elim (adds id j e) [
  | inl f ↦ none j f
  | inr f ↦ t.least.depends.1 (f.free i (omega arith) t.least.depends.0)
]

-- a set by the value of its least option
by_parts : {I : Type 0} {sets : Sets I} → IsLawful sets → (id low high : I) (i : ℕ) → sets.is_known id ≡ true → IsTop sets id i low high → (f : ℕ → List Bool → Bool) (l h : ℕ) → ((c : List Bool) → f l c ≡ sets.test low c) → ((c : List Bool) → f h c ≡ sets.test high c) → (c : List Bool) (b : Bool) → value_of c i ≡ b → f (if b then h else l) c ≡ sets.test id c
by_parts lawful id low high i k t f l h p q c true e = q c ∙ sym (part_here lawful id high i true k t.on c e)
by_parts lawful id low high i k t f l h p q c false e = p c ∙ sym (part_here lawful id low i false k t.off c e)

-- the place of a contained node
place_of : {A : Type 0} (xs : List A) (x : A) → Contains xs x → (place : ℕ) × (place < length xs) × (slice_get xs place ≡ Some x)
place_of {A = A} xs x p = (p.0, p.1, at xs p.0 p.1 p.2)
  where
    at : (ys : List A) (place : ℕ) → place < length ys → slice_index_or ys place x ≡ x → slice_get ys place ≡ Some x
    at [] place l e = absurd (omega (arith, l))
    at (y ∷ ys) zero l e = ap Some e
    at (y ∷ ys) (suc place) l e = at ys place (omega (arith, l)) e

-- the node of an id whose parts are numbered, and that has no number, may follow
next_of : {I : Type 0} {sets : Sets I} → IsLawful sets → (id low high : I) (nodes : List Node) (number : I → Option ℕ) (node : Node) → sets.is_known id ≡ true → IsTop sets id node.option low high → IsListed sets nodes number → IsNumberOf sets nodes low node.low → IsNumberOf sets nodes high node.high → ((j : ℕ) → number id ≡ Some j → ⊥) → IsNextNode sets.options nodes node
next_of {sets = sets} lawful id low high nodes number node k t listed p q none = record {
  in_range = t.in_range;
  low_given = p.below;
  high_given = q.below;
  differ = λ e.
      let c = t.least.depends.0 in
      t.least.depends.1 (sym (t.on.test c) ∙ sym (q.hold c) ∙ ap (λ x. holds nodes x c) (sym e) ∙ p.hold c ∙ t.off.test c);
  low_later = omega (arith, p.later (node.option + 1) (omega (arith, t.in_range)) (IsFreeBelow-low lawful id low high node.option k t));
  high_later = omega (arith, q.later (node.option + 1) (omega (arith, t.in_range)) (IsFreeBelow-high lawful id low high node.option k t));
  is_new = λ m.
      let place = place_of nodes node m in
      let other = listed.all place.0 place.1 in
      let given = listed.given other.0 (suc (suc place.0)) other.1 in
      let same : other.0 ≡ id = lawful.equal_sets other.0 id given.known k (λ c.
      sym (given.hold c) ∙ holds-node listed.reduced (suc (suc place.0)) node c place.2 ∙ by_parts lawful id low high node.option k t (holds nodes) node.low node.high p.hold q.hold c (value_of c node.option) refl) in
      none (suc (suc place.0)) (ap number (sym same) ∙ other.1);
}

-- a map with one id more
changed_only : {I : Type 0} (id x : I) (k j : ℕ) (number number' : I → Option ℕ) (b : Bool) → (b ≡ true → x ≡ id) → number' x ≡ (if b then Some k else number x) → number' x ≡ Some j → ((x ≡ id) × (j ≡ k)) ⊎ (number x ≡ Some j)
changed_only id x k j number number' true e u h = inl (e refl, cc (u, h))
changed_only id x k j number number' false e u h = inr (sym u ∙ h)

kept_other : {I : Type 0} (id x : I) (k j : ℕ) (number number' : I → Option ℕ) (b : Bool) → (b ≡ true → x ≡ id) → number' x ≡ (if b then Some k else number x) → ((m : ℕ) → number id ≡ Some m → ⊥) → number x ≡ Some j → number' x ≡ Some j
kept_other id x k j number number' true e u none h = absurd (none j (ap number (sym (e refl)) ∙ h))
kept_other id x k j number number' false e u none h = u ∙ h

-- the map with the id's number added; `test` finds the id
pub record AddsNumber {I : Type 0} (id : I) (k : ℕ) (number number' : I → Option ℕ) (test : I → Bool) : Type 0 where
  pub exact : (x : I) → test x ≡ true → x ≡ id
  pub updates : (x : I) → number' x ≡ (if test x then Some k else number x)
  pub added : number' id ≡ Some k

-- the list with the id's node, after its parts
IsGiven-last : {I : Type 0} {sets : Sets I} → IsLawful sets → (id low high : I) (nodes : List Node) (number : I → Option ℕ) (node : Node) (k : ℕ) → sets.is_known id ≡ true → IsTop sets id node.option low high → IsReducedList sets.options nodes → IsNextNode sets.options nodes node → IsNumberOf sets nodes low node.low → IsNumberOf sets nodes high node.high → k ≡ length nodes + 2 → IsGiven sets (nodes ++ node ∷ []) id k
IsGiven-last {sets = sets} lawful id low high nodes number node k known t r n p q e =
    let here : node_of (nodes ++ node ∷ []) k ≡ Some node = node_of-last nodes node k e in
    let all = nodes ++ node ∷ [] in
    let P : ℕ → Type 0 = λ o. IsLeastOption (sets.test id) o in
    record {
      known = known;
      inner = omega (arith, e);
      below = omega (arith, e, length-append nodes (node ∷ []));
      hold = λ c. holds-node (IsReducedList-append r n) k node c here ∙ by_parts lawful id low high node.option known t (holds all) node.low node.high (λ d. holds-append r (node ∷ []) node.low d p.below ∙ p.hold d) (λ d. holds-append r (node ∷ []) node.high d q.below ∙ q.hold d) c (value_of c node.option) refl;
      least = subst P (sym (ap (option_of sets.options) here)) t.least;
    }

IsListed-node : {I : Type 0} {sets : Sets I} (id : I) (nodes : List Node) (number number' : I → Option ℕ) (test : I → Bool) (node : Node) (k : ℕ) → IsListed sets nodes number → IsNextNode sets.options nodes node → IsGiven sets (nodes ++ node ∷ []) id k → k ≡ length nodes + 2 → AddsNumber id k number number' test → ((j : ℕ) → number id ≡ Some j → ⊥) → IsListed sets (nodes ++ node ∷ []) number'
IsListed-node {I = I} {sets = sets} id nodes number number' test node k listed n given e a none = record {
  reduced = IsReducedList-append listed.reduced n;
  given = λ x j h. by_case x j (changed_only id x k j number number' (test x) (a.exact x) (a.updates x) h);
  all = λ place l. at place l (order place (length nodes));
}
  where
    by_case : (x : I) (j : ℕ) → ((x ≡ id) × (j ≡ k)) ⊎ (number x ≡ Some j) → IsGiven sets (nodes ++ node ∷ []) x j
    by_case x j (inl s) =
        let P : I → Type 0 = λ y. IsGiven sets (nodes ++ node ∷ []) y j in
        let Q : ℕ → Type 0 = λ m. IsGiven sets (nodes ++ node ∷ []) id m in
        subst P (sym s.0) (subst Q (sym s.1) given)
    by_case x j (inr h) = IsGiven-append listed.reduced (node ∷ []) x j (listed.given x j h)

    at : (place : ℕ) → place < length (nodes ++ node ∷ []) → (place < length nodes) ⊎ (length nodes ≤ place) → (x : I) × (number' x ≡ Some (suc (suc place)))
    at place l (inl m) =
        let there = listed.all place m in
        (there.0, kept_other id there.0 k (suc (suc place)) number number' (test there.0) (a.exact there.0) (a.updates there.0) none there.1)
    at place l (inr m) =
        let here : suc (suc place) ≡ k = omega (arith, l, m, e, length-append nodes (node ∷ [])) in
        (id, a.added ∙ ap Some (sym here))

-- the id's node after its parts
pub IsNumberingStep-node : {I : Type 0} {sets : Sets I} → IsLawful sets → (first : ℕ) (id low high : I) (n0 n1 n2 : List Node) (number0 number1 number2 number3 : I → Option ℕ) (test : I → Bool) (node : Node) (k : ℕ) → sets.is_known id ≡ true → IsFreeBelow sets id first → IsTop sets id node.option low high → number0 id ≡ None → IsNumberingStep sets (node.option + 1) low n0 n1 number0 number1 node.low → IsNumberingStep sets (node.option + 1) high n1 n2 number1 number2 node.high → k ≡ length n2 + 2 → AddsNumber id k number2 number3 test → IsNumberingStep sets first id n0 (n2 ++ node ∷ []) number0 number3 k
IsNumberingStep-node {I = I} {sets = sets} lawful first id low high n0 n1 n2 number0 number1 number2 number3 test node k known free t none s u e a =
    let i = node.option in
    let P : List Node → Type 0 = λ xs. IsNumberOf sets xs low node.low in
    let low_there : IsNumberOf sets n2 low node.low = subst P (sym u.grows) (IsNumberOf-append s.listed.reduced u.more low node.low s.number_of) in
    let none1 = still_none id low high i number0 number1 t s.adds (λ j h. cc (none, h)) in
    let none2 = still_none id low high i number1 number2 t u.adds none1 in
    let next = next_of lawful id low high n2 number2 node known t u.listed low_there u.number_of none2 in
    let given = IsGiven-last lawful id low high n2 number2 node k known t u.listed.reduced next low_there u.number_of e in
    record {
      listed = IsListed-node id n2 number2 number3 test node k u.listed next given e a none2;
      more = s.more ++ u.more ++ node ∷ [];
      grows = ap (λ xs. xs ++ node ∷ []) (u.grows ∙ ap (λ xs. xs ++ u.more) s.grows) ∙ simp append_assoc;
      number_of = IsNumberOf-given id k given;
      numbers = numbers given.below;
      adds = λ x j h. by_case x (changed_only id x k j number2 number3 (test x) (a.exact x) (a.updates x) h);
    }
  where
    less : first ≤ node.option
    less = depends_later id first node.option free t.least

    by_case : {j : ℕ} (x : I) → ((x ≡ id) × (j ≡ k)) ⊎ (number2 x ≡ Some j) → (number0 x ≡ Some j) ⊎ IsFreeBelow sets x first
    by_case {j = j} x (inl q) =
        let P : I → Type 0 = λ y. IsFreeBelow sets y first in
        inr (subst P (sym q.0) free)
    by_case {j = j} x (inr h) = elim (u.adds x j h) [
      | inl m ↦ elim (s.adds x j m) [
        | inl o ↦ inl o
        | inr f ↦ inr (IsFreeBelow-less x first (node.option + 1) (omega (arith, less)) f)
      ]
      | inr f ↦ inr (IsFreeBelow-less x first (node.option + 1) (omega (arith, less)) f)
    ]

    numbers : k < length (n2 ++ node ∷ []) + 2 → Numbers (n2 ++ node ∷ []) (length n0 + 2) k (length (n2 ++ node ∷ []) + 2)
    numbers l =
        let all = n2 ++ node ∷ [] in
        let P : List Node → Type 0 = λ xs. Numbers xs (length n0 + 2) node.low (length n1 + 2) in
        let low_part : Numbers all (length n0 + 2) node.low (length n1 + 2) = Numbers-append n2 (node ∷ []) (length n0 + 2) node.low (length n1 + 2) (subst P (sym u.grows) (Numbers-append n1 u.more (length n0 + 2) node.low (length n1 + 2) s.numbers)) in
        let Q : ℕ → Type 0 = λ x. Numbers all (length n1 + 2) node.high x in
        let high_part : Numbers all (length n1 + 2) node.high k = subst Q (sym e) (Numbers-append n2 (node ∷ []) (length n1 + 2) node.high (length n2 + 2) u.numbers) in
        let longer : length n0 + 2 ≤ k = omega (arith, e, ap length u.grows, ap length s.grows, length-append n1 u.more, length-append n0 s.more) in
        let end : suc k ≡ length all + 2 = omega (arith, e, length-append n2 (node ∷ [])) in
        let R : ℕ → Type 0 = λ x. Numbers all (length n0 + 2) k x in
        subst R end (Numbers.made (length n0 + 2) k (length n1 + 2) node longer (node_of-last n2 node k e) low_part high_part)

-- the numbers of a list are those of some ids
abbrev pub AreNumbersOf : {I : Type 0} → Sets I → List Node → List I → List ℕ → Type 0
AreNumbersOf sets nodes [] [] = Unit {0}
AreNumbersOf sets nodes (id ∷ ids) (k ∷ ks) = IsNumberOf sets nodes id k × AreNumbersOf sets nodes ids ks
AreNumbersOf sets nodes [] (k ∷ ks) = ⊥
AreNumbersOf sets nodes (id ∷ ids) [] = ⊥

-- the first ids are numbered in order
pub record IsNumberingAll {I : Type 0} (sets : Sets I) (ids : List I) (nodes : List Node) (number : I → Option ℕ) (roots : List ℕ) : Type 0 where
  pub listed : IsListed sets nodes number
  pub roots_are : AreNumbersOf sets nodes ids roots
  pub numbers : NumbersAll nodes 2 roots (length nodes + 2)

pub IsNumberingAll-none : {I : Type 0} (sets : Sets I) (number : I → Option ℕ) → ((id : I) → number id ≡ None) → IsNumberingAll sets [] [] number []
IsNumberingAll-none sets number none = record { listed = IsListed-none sets number none; roots_are = tt; numbers = NumbersAll.none 2 }

AreNumbersOf-append : {I : Type 0} (sets : Sets I) {nodes : List Node} → IsReducedList sets.options nodes → (more : List Node) (ids : List I) (ks : List ℕ) → AreNumbersOf sets nodes ids ks → AreNumbersOf sets (nodes ++ more) ids ks
AreNumbersOf-append sets r more [] [] h = tt
AreNumbersOf-append sets r more (id ∷ ids) (k ∷ ks) h = (IsNumberOf-append r more id k h.0, AreNumbersOf-append sets r more ids ks h.1)
AreNumbersOf-append sets r more [] (k ∷ ks) h = h
AreNumbersOf-append sets r more (id ∷ ids) [] h = h

AreNumbersOf-last : {I : Type 0} {sets : Sets I} {nodes : List Node} (id : I) (k : ℕ) → IsNumberOf sets nodes id k → (ids : List I) (ks : List ℕ) → AreNumbersOf sets nodes ids ks → AreNumbersOf sets nodes (ids ++ id ∷ []) (ks ++ k ∷ [])
AreNumbersOf-last id k n [] [] h = (n, tt)
AreNumbersOf-last id k n (x ∷ ids) (j ∷ ks) h = (h.0, AreNumbersOf-last id k n ids ks h.1)
AreNumbersOf-last id k n [] (j ∷ ks) h = absurd h
AreNumbersOf-last id k n (x ∷ ids) [] h = absurd h

NumbersAll-append : (nodes more : List Node) (n : ℕ) (ks : List ℕ) (m : ℕ) → NumbersAll nodes n ks m → NumbersAll (nodes ++ more) n ks m
NumbersAll-append nodes more n ks m (NumbersAll.none _) = NumbersAll.none n
NumbersAll-append nodes more n ks m (NumbersAll.first _ root between roots _ here rest) = NumbersAll.first n root between roots m (Numbers-append nodes more n root between here) (NumbersAll-append nodes more between roots m rest)

NumbersAll-last : (nodes : List Node) (n : ℕ) (ks : List ℕ) (m k p : ℕ) → NumbersAll nodes n ks m → Numbers nodes m k p → NumbersAll nodes n (ks ++ k ∷ []) p
NumbersAll-last nodes n ks m k p (NumbersAll.none _) q = NumbersAll.first n k p [] p q (NumbersAll.none p)
NumbersAll-last nodes n ks m k p (NumbersAll.first _ root between roots _ here rest) q = NumbersAll.first n root between (roots ++ k ∷ []) p here (NumbersAll-last nodes between roots m k p rest q)

pub IsNumberingAll-more : {I : Type 0} {sets : Sets I} (ids all : List I) (id : I) (old new : List Node) (number number' : I → Option ℕ) (roots : List ℕ) (k : ℕ) → IsNumberingAll sets ids old number roots → IsNumberingStep sets 0 id old new number number' k → all ≡ ids ++ id ∷ [] → IsNumberingAll sets all new number' (roots ++ k ∷ [])
IsNumberingAll-more {I = I} {sets = sets} ids all id old new number number' roots k h s e =
    let P : List Node → Type 0 = λ xs. AreNumbersOf sets xs ids roots in
    let Q : List I → Type 0 = λ xs. AreNumbersOf sets new xs (roots ++ k ∷ []) in
    let R : List Node → Type 0 = λ xs. NumbersAll xs 2 roots (length old + 2) in
    record {
      listed = s.listed;
      roots_are = subst Q (sym e) (AreNumbersOf-last id k s.number_of ids roots (subst P (sym s.grows) (AreNumbersOf-append sets h.listed.reduced s.more ids roots h.roots_are)));
      numbers = NumbersAll-last new 2 roots (length old + 2) k (length new + 2) (subst R (sym s.grows) (NumbersAll-append old s.more 2 roots (length old + 2) h.numbers)) s.numbers;
    }

HoldAll-numbers : {I : Type 0} (sets : Sets I) (nodes : List Node) (ids : List I) (ks : List ℕ) → AreNumbersOf sets nodes ids ks → HoldAll nodes ks (map sets.test ids)
HoldAll-numbers sets nodes [] [] h = tt
HoldAll-numbers sets nodes (id ∷ ids) (k ∷ ks) h = (h.0.hold, HoldAll-numbers sets nodes ids ks h.1)
HoldAll-numbers sets nodes [] (k ∷ ks) h = h
HoldAll-numbers sets nodes (id ∷ ids) [] h = h

pub IsListing-all : {I : Type 0} {sets : Sets I} (ids all : List I) (nodes : List Node) (number : I → Option ℕ) (roots : List ℕ) → IsNumberingAll sets ids nodes number roots → ids ≡ all → IsListing sets all nodes roots
IsListing-all {I = I} {sets = sets} ids all nodes number roots h e =
    let P : List I → Type 0 = λ xs. IsListing sets xs nodes roots in
    subst P e (record { hold = HoldAll-numbers sets nodes ids roots h.roots_are; numbered = record { reduced = h.listed.reduced; numbered = h.numbers } })

-- a known id of a list
pub known_at : {I : Type 0} (sets : Sets I) (ids : List I) (i : ℕ) (id : I) → AreKnown sets ids → i < length ids → id ≡ get_or ids i id → sets.is_known id ≡ true
known_at sets [] i id h l e = absurd (omega (arith, l))
known_at sets (x ∷ ids) zero id h l e = ap sets.is_known e ∙ h.0
known_at sets (x ∷ ids) (suc i) id h l e = known_at sets ids i id h.1 (omega (arith, l)) e
