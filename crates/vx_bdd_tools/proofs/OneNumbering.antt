-- Some sets have one list in a report's numbering.
use Rattle.std.proofs.Common.{◌≡◌, ◌⊎◌, ℕ, ◌+◌, ◌<◌, ◌≤◌, Bool, true, false, List, [], ◌∷◌, length, refl, sym, ◌∙◌, ap, subst, arith, zero, suc, inl, inr}
use Rattle.std.specs.Prelude.{Some, if◌then◌else◌, nat_eq, slice_get}
use Rattle.vx_space.specs.Config.{value_of, with_option}
use Rattle.vx_space.specs.Sets.{Sets}
use Rattle.vx_bdd_tools.specs.declared.node.Node.{Node}
use Rattle.vx_bdd_tools.specs.Nodes.{node_of, walk, holds, level, option_of, IsReducedList}
use Rattle.vx_bdd_tools.specs.Numbering.{Numbers, NumbersAll, HoldAll}
use Rattle.vx_bdd_tools.specs.Listing.{IsListing, IsOnlyListing}
use Rattle.vx_bdd_tools.proofs.NodeLists.{node_cases, node_within, part_falls, walk-end}
use Rattle.vx_bdd_tools.proofs.NodeSets.{node_rules, order_cases, holds-free, holds-part, node_same, canonical}

-- the numbers below n have the same nodes in both lists
pub record AgreeTo (one other : List Node) (n : ℕ) : Type 0 where
  pub same : (k : ℕ) → k < n → node_of one k ≡ node_of other k

AgreeTo-sym : {one other : List Node} {n : ℕ} → AgreeTo one other n → AgreeTo other one n
AgreeTo-sym h = record { same = λ k l. sym (h.same k l) }

walk-agree : {options : ℕ} {one : List Node} (other : List Node) (n : ℕ) → IsReducedList options one → AgreeTo one other n → (steps k : ℕ) (c : List Bool) → k < n → walk one steps k c ≡ walk other steps k c
walk-agree other n r h zero k c l = refl
walk-agree {one = one} other n r h (suc steps) k c l =
    elim (node_cases (node_of one k)) [
      | inl e ↦ walk-end one (suc steps) k c e ∙ sym (walk-end other (suc steps) k c (sym (h.same k l) ∙ e))
      | inr p ↦
          let falls = part_falls r k p.0 p.1 (value_of c p.0.option) in
          rw (← (h.same k l), p.1) (walk-agree other n r h steps (if value_of c p.0.option then p.0.high else p.0.low) c (omega (arith, falls, l)))
    ]

holds-agree : {options : ℕ} {one : List Node} (other : List Node) (n : ℕ) → IsReducedList options one → AgreeTo one other n → (k : ℕ) (c : List Bool) → k < n → holds one k c ≡ holds other k c
holds-agree other n r h k c l = ap (λ w. nat_eq w 1) (walk-agree other n r h k k c l)

-- numbering stays within the list
pub Numbers-within : (nodes : List Node) (n k m : ℕ) → n ≤ length nodes + 2 → Numbers nodes n k m → (k < m) × (n ≤ m) × (m ≤ length nodes + 2)
Numbers-within nodes n k m l (Numbers.given _ _ h) = (h, omega arith, l)
Numbers-within nodes n k m l (Numbers.made _ _ between node h e low high) =
    let within = (node_within nodes k node e).1 in
    (omega arith, omega (arith, h), omega (arith, within))

-- two numbers in two lists hold the same set
pub record HoldSame (one other : List Node) (a b : ℕ) : Type 0 where
  pub same : (c : List Bool) → holds one a c ≡ holds other b c

HoldSame-sym : {one other : List Node} {a b : ℕ} → HoldSame one other a b → HoldSame other one b a
HoldSame-sym h = record { same = λ c. sym (h.same c) }

-- a node's set is of no number of the other list that asks later options
not_later : {options : ℕ} {one other : List Node} → IsReducedList options one → IsReducedList options other → (a b : ℕ) (x y : Node) → node_of one a ≡ Some x → node_of other b ≡ Some y → HoldSame one other a b → x.option < y.option → ⊥
not_later {options = options} {one = one} {other = other} r s a b x y e f h l =
    let n = node_rules r a x e in
    let later : x.option < level options other b = omega (arith, l, ap (option_of options) f) in
    n.differ (canonical r x.low x.high (omega (arith, n.low_falls, n.within)) (omega (arith, n.high_falls, n.within)) (λ c.
    sym (holds-part r a x c false e) ∙ h.same (with_option c x.option false) ∙ holds-free s b c x.option false later
    ∙ sym (holds-free s b c x.option true later) ∙ sym (h.same (with_option c x.option true)) ∙ holds-part r a x c true e))

one_option : {options : ℕ} {one other : List Node} → IsReducedList options one → IsReducedList options other → (a b : ℕ) (x y : Node) → node_of one a ≡ Some x → node_of other b ≡ Some y → HoldSame one other a b → x.option ≡ y.option
one_option r s a b x y e f h = elim (order_cases x.option y.option) [
  | inl l ↦ absurd (not_later r s a b x y e f h l)
  | inr m ↦ elim m [
    | inl l ↦ absurd (not_later s r b a y x f e (HoldSame-sym h) l)
    | inr o ↦ o
  ]
]

same_parts : {options : ℕ} {one other : List Node} → IsReducedList options one → IsReducedList options other → (a b : ℕ) (x y : Node) → node_of one a ≡ Some x → node_of other b ≡ Some y → HoldSame one other a b → x.option ≡ y.option → (v : Bool) → HoldSame one other (if v then x.high else x.low) (if v then y.high else y.low)
same_parts {other = other} r s a b x y e f h o v = record {
  same = λ c. sym (holds-part r a x c v e) ∙ h.same (with_option c x.option v) ∙ ap (λ i. holds other b (with_option c i v)) o ∙ holds-part s b y c v f;
}

-- what two numberings come to
pub record AreOne (one other : List Node) (a b m p : ℕ) : Type 0 where
  pub number : a ≡ b
  pub end : m ≡ p
  pub agree : AgreeTo one other m

AgreeTo-more : {one other : List Node} (k : ℕ) (x : Node) → AgreeTo one other k → node_of one k ≡ Some x → node_of other k ≡ Some x → AgreeTo one other (suc k)
AgreeTo-more {one = one} {other = other} k x h e f = record { same = λ j l. at j l (order_cases j k) }
  where
    at : (j : ℕ) → j < suc k → (j < k) ⊎ (k < j) ⊎ (j ≡ k) → node_of one j ≡ node_of other j
    at j l (inl m) = h.same j m
    at j l (inr (inl m)) = absurd (omega (arith, l, m))
    at j l (inr (inr m)) = ap (node_of one) m ∙ e ∙ sym f ∙ ap (node_of other) (sym m)

-- a number that is given is no new one of the other list
given_made : {options : ℕ} {one other : List Node} (n a b : ℕ) (y : Node) → IsReducedList options one → IsReducedList options other → AgreeTo one other n → n ≤ length other + 2 → a < n → n ≤ b → node_of other b ≡ Some y → HoldSame one other a b → ⊥
given_made {one = one} {other = other} n a b y r s h l m p e w =
    let same : a ≡ b = canonical s a b (omega (arith, l, m)) (node_within other b y e).1 (λ c. sym (holds-agree other n r h a c m) ∙ w.same c) in
    omega (arith, same, m, p)

numbers_one : {options : ℕ} {one other : List Node} → IsReducedList options one → IsReducedList options other → (n a b m p : ℕ) → n ≤ length one + 2 → n ≤ length other + 2 → AgreeTo one other n → HoldSame one other a b → Numbers one n a m → Numbers other n b p → AreOne one other a b m p
numbers_one {one = one} {other = other} r s n a b m p l1 l2 h w (Numbers.given _ _ k1) (Numbers.given _ _ k2) = record {
  number = canonical r a b (omega (arith, k1, l1)) (omega (arith, k2, l1)) (λ c. w.same c ∙ sym (holds-agree other n r h b c k2));
  end = refl;
  agree = h;
}
numbers_one r s n a b m p l1 l2 h w (Numbers.given _ _ k1) (Numbers.made _ _ between y k2 e low high) = absurd (given_made n a b y r s h l2 k1 k2 e w)
numbers_one r s n a b m p l1 l2 h w (Numbers.made _ _ between x k1 e low high) (Numbers.given _ _ k2) = absurd (given_made n b a x s r (AgreeTo-sym h) l1 k2 k1 e (HoldSame-sym w))
numbers_one {one = one} {other = other} r s n a b m p l1 l2 h w (Numbers.made _ _ between x k1 e low high) (Numbers.made _ _ between' y k2 f low' high') =
    let option = one_option r s a b x y e f w in
    let first = numbers_one r s n x.low y.low between between' l1 l2 h (same_parts r s a b x y e f w option false) low low' in
    let P : ℕ → Type 0 = λ t. Numbers other t y.high b in
    let within1 = (Numbers-within one n x.low between l1 low).2 in
    let within2 = (Numbers-within other n y.low between' l2 low').2 in
    let second = numbers_one r s between x.high y.high a b within1 (omega (arith, within2, first.end)) first.agree (same_parts r s a b x y e f w option true) high (subst P (sym first.end) high') in
    let same : x ≡ y = node_same x y option first.number second.number in
    record {
      number = second.end;
      end = ap suc second.end;
      agree = AgreeTo-more a x second.agree e (ap (node_of other) second.end ∙ f ∙ ap Some (sym same));
    }

-- the same of lists of roots
pub record AreOneAll (one other : List Node) (ks ls : List ℕ) (m p : ℕ) : Type 0 where
  pub numbers : ks ≡ ls
  pub end : m ≡ p
  pub agree : AgreeTo one other m

numbers_one_all : {options : ℕ} {one other : List Node} → IsReducedList options one → IsReducedList options other → (n : ℕ) (ks ls : List ℕ) (sets : List (List Bool → Bool)) (m p : ℕ) → n ≤ length one + 2 → n ≤ length other + 2 → AgreeTo one other n → HoldAll one ks sets → HoldAll other ls sets → NumbersAll one n ks m → NumbersAll other n ls p → AreOneAll one other ks ls m p
numbers_one_all r s n [] [] [] m p l1 l2 h u v (NumbersAll.none _) (NumbersAll.none _) = record { numbers = refl; end = refl; agree = h }
numbers_one_all r s n [] (b ∷ ls) [] m p l1 l2 h u v d1 d2 = absurd v
numbers_one_all r s n (a ∷ ks) ls [] m p l1 l2 h u v d1 d2 = absurd u
numbers_one_all r s n [] ls (set ∷ sets) m p l1 l2 h u v d1 d2 = absurd u
numbers_one_all r s n (a ∷ ks) [] (set ∷ sets) m p l1 l2 h u v d1 d2 = absurd v
numbers_one_all {one = one} {other = other} r s n (a ∷ ks) (b ∷ ls) (set ∷ sets) m p l1 l2 h u v (NumbersAll.first _ _ between _ _ here rest) (NumbersAll.first _ _ between' _ _ here' rest') =
    let first = numbers_one r s n a b between between' l1 l2 h (record { same = λ c. u.0 c ∙ sym (v.0 c) }) here here' in
    let P : ℕ → Type 0 = λ t. NumbersAll other t ls p in
    let within1 = (Numbers-within one n a between l1 here).2 in
    let within2 = (Numbers-within other n b between' l2 here').2 in
    let others = numbers_one_all r s between ks ls sets m p within1 (omega (arith, within2, first.end)) first.agree u.1 v.1 rest (subst P (sym first.end) rest') in
    record { numbers = ap (λ x. x ∷ ks) first.number ∙ ap (λ xs. b ∷ xs) others.numbers; end = others.end; agree = others.agree }

same_lists : {A : Type 0} (xs ys : List A) → length xs ≡ length ys → ((i : ℕ) → i < length xs → slice_get xs i ≡ slice_get ys i) → xs ≡ ys
same_lists [] [] e h = refl
same_lists [] (y ∷ ys) e h = absurd (omega (arith, e))
same_lists (x ∷ xs) [] e h = absurd (omega (arith, e))
same_lists (x ∷ xs) (y ∷ ys) e h =
    let first : x ≡ y = cc (h 0 (omega arith)) in
    ap (λ v. v ∷ xs) first ∙ ap (λ vs. y ∷ vs) (same_lists xs ys (omega (arith, e)) (λ i l. h (suc i) (omega (arith, l))))

-- never and always have no node
agree_start : (one other : List Node) → AgreeTo one other 2
agree_start one other = record { same = λ k l. at k l }
  where
    at : (k : ℕ) → k < 2 → node_of one k ≡ node_of other k
    at zero l = refl
    at (suc zero) l = refl
    at (suc (suc k)) l = absurd (omega (arith, l))

pub IsOnlyListing-of : {I : Type 0} (sets : Sets I) (ids : List I) (nodes : List Node) (roots : List ℕ) → IsListing sets ids nodes roots → IsOnlyListing sets ids nodes roots
IsOnlyListing-of sets ids nodes roots h = record {
  only = λ other numbers g.
      let one = numbers_one_all h.numbered.reduced g.numbered.reduced 2 roots numbers _ _ _ (omega arith) (omega arith) (agree_start nodes other) h.hold g.hold h.numbered.numbered g.numbered.numbered in
      let len : length nodes ≡ length other = omega (arith, one.end) in
      (sym (same_lists nodes other len (λ i l. one.agree.same (suc (suc i)) (omega (arith, l)))), sym one.numbers);
}
