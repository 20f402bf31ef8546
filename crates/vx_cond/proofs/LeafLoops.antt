-- What the loops over leaves keep.
use Rattle.std.proofs.Common.{◌≡◌, ℕ, ◌+◌, ◌<◌, ◌≤◌, Bool, true, false, List, [], ◌∷◌, ◌++◌, refl, sym, ◌∙◌, ap, arith, take, drop, zero, suc, get_or, length, add-one, drop-cons, inl, inr, subst, ⊎_elim}
use Rattle.std.proofs.lemmas.List.{take_more, take_all, drop_all}
use Rattle.std.specs.Prelude.{Option, Some, None, if◌then◌else◌, ◌&&◌}
use Rattle.std.specs.Option.{option_or}
use Rattle.std.specs.declared.cmp.Ordering.{Ordering}
use Rattle.vx_space.specs.Sets.{Sets, Extends, IsSet}
use Rattle.vx_space.proofs.Spaces.{Extends-trans, Extends-refl}
use Rattle.vx_cond.specs.declared.cond.Leaf.{Leaf}
use Rattle.vx_cond.specs.Leaves.{value_at, IsApart, AreLeaves, AreLeavesOf, AreLeavesApart, value_under, value_within, first_of, IsLifted, AreLifted, IsLifted2, AreLifted2, IsLiftedUnder}
use Rattle.vx_cond.proofs.LeafLaws.{value_at-append, value_at-extends, AreLeaves-extends}

-- what a loop knows of the leaf at place i
pub record IsNext {T S I : Type 0} (sets : Sets I) (xs : List (Leaf T S I)) (i : ℕ) (x : Leaf T S I) : Type 0 where
  pub known : sets.is_known x.condition ≡ true
  pub before : IsApart sets x.condition (take i xs)
  pub more : (c : List Bool) → value_at sets (take (i + 1) xs) c ≡ value_under sets x.condition x.value (value_at sets (take i xs)) c

option_or_none : {T : Type 0} (r : Option T) → option_or r None ≡ r
option_or_none None = refl
option_or_none (Some v) = refl

test_none : {T : Type 0} (b : Bool) (v : T) (r : Option T) → (if b then Some v else r) ≡ None → b ≡ true → ⊥
test_none true v r h t = cc
test_none false v r h t = cc

rest_none : {T : Type 0} (b : Bool) (v : T) (r : Option T) → (if b then Some v else r) ≡ None → r ≡ None
rest_none true v r h = cc
rest_none false v r h = h

-- where a leaf's condition holds, the leaves have a value
pub leaf_here : {T S I : Type 0} (sets : Sets I) (xs : List (Leaf T S I)) (i : ℕ) (x : Leaf T S I) (c : List Bool) → i < length xs → x ≡ get_or xs i x → sets.test x.condition c ≡ true → value_at sets xs c ≡ None → ⊥
leaf_here sets [] i x c l e t n = omega arith
leaf_here sets (z ∷ zs) zero x c l e t n = test_none (sets.test z.condition c) z.value (value_at sets zs c) n (ap (λ v. sets.test v.condition c) (sym e) ∙ t)
leaf_here sets (z ∷ zs) (suc i) x c l e t n = leaf_here sets zs i x c (omega arith) e t (rest_none (sets.test z.condition c) z.value (value_at sets zs c) n)

at_place : {T S I : Type 0} (cmp : T → T → Ordering) (sets : Sets I) (xs : List (Leaf T S I)) (i : ℕ) (x : Leaf T S I) → AreLeaves cmp sets xs → i < length xs → x ≡ get_or xs i x → (sets.is_known x.condition ≡ true) × IsApart sets x.condition (take i xs)
at_place cmp sets [] i x h l e = absurd (omega arith)
at_place cmp sets (y ∷ ys) zero x h l e = (rw e h.0.known, record { none = λ _ _. refl })
at_place cmp sets (y ∷ ys) (suc i) x h l e =
    let less : i < length ys = omega arith in
    let rest = at_place cmp sets ys i x h.1 less e in
    (rest.0, record { none = λ c t. after (sets.test y.condition c) y.value (value_at sets (take i ys) c) (rest.1.none c t) (λ u. leaf_here sets ys i x c less e t (h.0.apart.none c u)) })
  where
    after : {T : Type 0} (b : Bool) (v : T) (r : Option T) → r ≡ None → (b ≡ true → ⊥) → (if b then Some v else r) ≡ None
    after true v r h f = absurd (f refl)
    after false v r h f = h

pub next_leaf : {T S I : Type 0} (cmp : T → T → Ordering) (sets : Sets I) (xs : List (Leaf T S I)) (i : ℕ) (x : Leaf T S I) → AreLeaves cmp sets xs → i < length xs → x ≡ get_or xs i x → IsNext sets xs i x
next_leaf {T = T} cmp sets xs i x h l e =
    let facts = at_place cmp sets xs i x h l e in
    record {
      known = facts.0;
      before = facts.1;
      more = λ c. ap (λ ys. value_at sets ys c) (take_more xs i x l ∙ ap (λ y. take i xs ++ y ∷ []) (sym e)) ∙ value_at-append sets (take i xs) (x ∷ []) c ∙ last (sets.test x.condition c) x.value (value_at sets (take i xs) c) (facts.1.none c);
    }
  where
    last : (b : Bool) (v : T) (r : Option T) → (b ≡ true → r ≡ None) → option_or r (if b then Some v else None) ≡ (if b then Some v else r)
    last true v r h = rw (h refl) refl
    last false v r h = option_or_none r

-- the condition of the next leaf is known in an extension
pub next_known : {T S I : Type 0} (cmp : T → T → Ordering) {start sets : Sets I} (xs : List (Leaf T S I)) (i : ℕ) (x : Leaf T S I) → AreLeaves cmp start xs → i < length xs → x ≡ get_or xs i x → Extends start sets → sets.is_known x.condition ≡ true
next_known cmp {start = start} xs i x h l e f = f.known x.condition (at_place cmp start xs i x h l e).0

-- the leaves inside a condition, of the first i
pub record IsRestricting {T S I : Type 0} (cmp : T → T → Ordering) (start sets : Sets I) (xs : List (Leaf T S I)) (within : I) (i : ℕ) (made : List (Leaf T S I)) : Type 0 where
  pub extends : Extends start sets
  pub leaves : AreLeavesOf cmp sets (value_within start within (value_at start (take i xs))) made

pub IsRestricting-step : {T S I : Type 0} (cmp : T → T → Ordering) {s0 s1 s2 s3 : Sets I} (xs : List (Leaf T S I)) (i : ℕ) (x : Leaf T S I) (within k : I) (made after : List (Leaf T S I)) → AreLeaves cmp s0 xs → s0.is_known within ≡ true → i < length xs → x ≡ get_or xs i x → IsRestricting cmp s0 s1 xs within i made → Extends s1 s2 → IsSet s2 k (λ c. s1.test x.condition c && s1.test within c) → Extends s2 s3 → AreLeavesOf cmp s3 (value_under s2 k x.value (value_at s2 made)) after → IsRestricting cmp s0 s3 xs within (i + 1) after
IsRestricting-step {T = T} cmp {s0 = s0} {s1 = s1} {s2 = s2} xs i x within k made after h w l e r e1 u e2 a =
    let next = next_leaf cmp s0 xs i x h l e in
    record {
      extends = Extends-trans r.extends (Extends-trans e1 e2);
      leaves = record {
        are_leaves = a.are_leaves;
        values = λ c. a.values c
            ∙ ap (λ b. if b then Some x.value else value_at s2 made c) (u.test c)
            ∙ rw (r.extends.test x.condition c next.known, r.extends.test within c w) (ap (λ o. if (s0.test x.condition c && s0.test within c) then Some x.value else o) (value_at-extends cmp e1 made r.leaves.are_leaves c ∙ r.leaves.values c))
            ∙ cases (s0.test x.condition c) (s0.test within c) x.value (value_at s0 (take i xs) c)
            ∙ ap (λ o. if s0.test within c then o else None) (sym (next.more c));
      };
    }
  where
    cases : (a b : Bool) (v : T) (r : Option T) → (if (a && b) then Some v else (if b then r else None)) ≡ (if b then (if a then Some v else r) else None)
    cases true true v r = refl
    cases true false v r = refl
    cases false true v r = refl
    cases false false v r = refl

-- what is to be added is apart from what is there
pub IsRestricting-apart : {T S I : Type 0} (cmp : T → T → Ordering) {s0 s1 s2 : Sets I} (xs : List (Leaf T S I)) (i : ℕ) (x : Leaf T S I) (within k : I) (made : List (Leaf T S I)) → AreLeaves cmp s0 xs → i < length xs → x ≡ get_or xs i x → IsRestricting cmp s0 s1 xs within i made → Extends s1 s2 → IsSet s2 k (λ c. s1.test x.condition c && s1.test within c) → IsApart s2 k made
IsRestricting-apart {T = T} cmp {s0 = s0} {s1 = s1} xs i x within k made h l e r e1 u =
    let next = next_leaf cmp s0 xs i x h l e in
    record {
      none = λ c t. value_at-extends cmp e1 made r.leaves.are_leaves c ∙ r.leaves.values c
          ∙ ap (λ o. if s0.test within c then o else None) (next.before.none c (sym (r.extends.test x.condition c next.known) ∙ and_left (s1.test x.condition c) (s1.test within c) (sym (u.test c) ∙ t)))
          ∙ both_none (s0.test within c);
    }
  where
    and_left : (a b : Bool) → (a && b) ≡ true → a ≡ true
    and_left true b h = refl
    and_left false b h = h

    both_none : (b : Bool) → ◌≡◌ {A = Option T} (if b then None else None) None
    both_none true = refl
    both_none false = refl

pub IsRestricting-end : {T S I : Type 0} (cmp : T → T → Ordering) {s0 s1 : Sets I} (xs : List (Leaf T S I)) (within : I) (i : ℕ) (made : List (Leaf T S I)) → IsRestricting cmp s0 s1 xs within i made → length xs ≤ i → AreLeavesOf cmp s1 (value_within s0 within (value_at s0 xs)) made
IsRestricting-end cmp xs within i made r l = rw (take_all i xs l) at r.leaves

-- the first i leaves of one list and the first j of another, as far as two that are apart are merged
pub record IsMerging {T S I : Type 0} (cmp : T → T → Ordering) (start sets : Sets I) (xs ys : List (Leaf T S I)) (i j : ℕ) (made : List (Leaf T S I)) : Type 0 where
  pub extends : Extends start sets
  pub first : i ≤ length xs
  pub second : j ≤ length ys
  pub leaves : AreLeavesOf cmp sets (first_of (value_at start (take i xs)) (value_at start (take j ys))) made

pub IsMerging-start : {T S I : Type 0} (cmp : T → T → Ordering) (sets : Sets I) (xs ys : List (Leaf T S I)) → IsMerging cmp sets sets xs ys 0 0 []
IsMerging-start cmp sets xs ys = record {
  extends = Extends-refl sets;
  first = omega arith;
  second = omega arith;
  leaves = record { are_leaves = tt; values = λ _. refl };
}

-- where all leaves have no value, the first of them have none
take_none : {T S I : Type 0} (sets : Sets I) (xs : List (Leaf T S I)) (i : ℕ) (c : List Bool) → value_at sets xs c ≡ None → value_at sets (take i xs) c ≡ None
take_none sets [] zero c n = refl
take_none sets [] (suc i) c n = refl
take_none sets (x ∷ xs) zero c n = refl
take_none sets (x ∷ xs) (suc i) c n = cases (sets.test x.condition c) x.value (value_at sets xs c) (value_at sets (take i xs) c) (take_none sets xs i c) n
  where
    cases : {T : Type 0} (b : Bool) (v : T) (r q : Option T) → (r ≡ None → q ≡ None) → (if b then Some v else r) ≡ None → (if b then Some v else q) ≡ None
    cases true v r q f m = cc
    cases false v r q f m = f m

-- where a leaf of one list holds, the first of the other have no value
other_none : {T S I : Type 0} (sets : Sets I) (xs ys : List (Leaf T S I)) (i j : ℕ) (x : Leaf T S I) (c : List Bool) → AreLeavesApart sets xs ys → i < length xs → x ≡ get_or xs i x → sets.test x.condition c ≡ true → value_at sets (take j ys) c ≡ None
other_none sets xs ys i j x c a l e t = ⊎_elim (λ n. absurd (leaf_here sets xs i x c l e t n)) (λ n. take_none sets ys j c n) (a.none c)

AreLeavesApart-sym : {T S I : Type 0} {sets : Sets I} {xs ys : List (Leaf T S I)} → AreLeavesApart sets xs ys → AreLeavesApart sets ys xs
AreLeavesApart-sym a = record { none = λ c. ⊎_elim (λ n. inr n) (λ n. inl n) (a.none c) }

no_value : {T : Type 0} (r q : Option T) → r ≡ None → q ≡ None → option_or r q ≡ None
no_value r q h k = rw (h, k) refl

pub IsMerging-apart_first : {T S I : Type 0} (cmp : T → T → Ordering) {s0 s1 : Sets I} (xs ys : List (Leaf T S I)) (i j : ℕ) (x : Leaf T S I) (made : List (Leaf T S I)) → AreLeaves cmp s0 xs → AreLeavesApart s0 xs ys → i < length xs → x ≡ get_or xs i x → IsMerging cmp s0 s1 xs ys i j made → IsApart s1 x.condition made
IsMerging-apart_first cmp {s0 = s0} {s1 = s1} xs ys i j x made h a l e r =
    let next = next_leaf cmp s0 xs i x h l e in
    record {
      none = λ c t.
          let here = sym (r.extends.test x.condition c next.known) ∙ t in
          r.leaves.values c ∙ no_value (value_at s0 (take i xs) c) (value_at s0 (take j ys) c) (next.before.none c here) (other_none s0 xs ys i j x c a l e here);
    }

pub IsMerging-apart_second : {T S I : Type 0} (cmp : T → T → Ordering) {s0 s1 : Sets I} (xs ys : List (Leaf T S I)) (i j : ℕ) (y : Leaf T S I) (made : List (Leaf T S I)) → AreLeaves cmp s0 ys → AreLeavesApart s0 xs ys → j < length ys → y ≡ get_or ys j y → IsMerging cmp s0 s1 xs ys i j made → IsApart s1 y.condition made
IsMerging-apart_second cmp {s0 = s0} {s1 = s1} xs ys i j y made h a l e r =
    let next = next_leaf cmp s0 ys j y h l e in
    record {
      none = λ c t.
          let here = sym (r.extends.test y.condition c next.known) ∙ t in
          r.leaves.values c ∙ no_value (value_at s0 (take i xs) c) (value_at s0 (take j ys) c) (other_none s0 ys xs j i y c (AreLeavesApart-sym a) l e here) (next.before.none c here);
    }

pub IsMerging-first : {T S I : Type 0} (cmp : T → T → Ordering) {s0 s1 s2 : Sets I} (xs ys : List (Leaf T S I)) (i j : ℕ) (x : Leaf T S I) (made after : List (Leaf T S I)) → AreLeaves cmp s0 xs → i < length xs → x ≡ get_or xs i x → IsMerging cmp s0 s1 xs ys i j made → Extends s1 s2 → AreLeavesOf cmp s2 (value_under s1 x.condition x.value (value_at s1 made)) after → IsMerging cmp s0 s2 xs ys (i + 1) j after
IsMerging-first {T = T} cmp {s0 = s0} {s1 = s1} xs ys i j x made after h l e r e1 u =
    let next = next_leaf cmp s0 xs i x h l e in
    record {
      extends = Extends-trans r.extends e1;
      first = omega (arith, l);
      second = r.second;
      leaves = record {
        are_leaves = u.are_leaves;
        values = λ c. u.values c
            ∙ rw (r.extends.test x.condition c next.known) (ap (λ o. if s0.test x.condition c then Some x.value else o) (r.leaves.values c))
            ∙ cases (s0.test x.condition c) x.value (value_at s0 (take i xs) c) (value_at s0 (take j ys) c)
            ∙ ap (λ o. option_or o (value_at s0 (take j ys) c)) (sym (next.more c));
      };
    }
  where
    cases : (b : Bool) (v : T) (r q : Option T) → (if b then Some v else option_or r q) ≡ option_or (if b then Some v else r) q
    cases true v r q = refl
    cases false v r q = refl

pub IsMerging-second : {T S I : Type 0} (cmp : T → T → Ordering) {s0 s1 s2 : Sets I} (xs ys : List (Leaf T S I)) (i j : ℕ) (y : Leaf T S I) (made after : List (Leaf T S I)) → AreLeaves cmp s0 ys → AreLeavesApart s0 xs ys → j < length ys → y ≡ get_or ys j y → IsMerging cmp s0 s1 xs ys i j made → Extends s1 s2 → AreLeavesOf cmp s2 (value_under s1 y.condition y.value (value_at s1 made)) after → IsMerging cmp s0 s2 xs ys i (j + 1) after
IsMerging-second {T = T} cmp {s0 = s0} {s1 = s1} xs ys i j y made after h a l e r e1 u =
    let next = next_leaf cmp s0 ys j y h l e in
    record {
      extends = Extends-trans r.extends e1;
      first = r.first;
      second = omega (arith, l);
      leaves = record {
        are_leaves = u.are_leaves;
        values = λ c. u.values c
            ∙ rw (r.extends.test y.condition c next.known) (ap (λ o. if s0.test y.condition c then Some y.value else o) (r.leaves.values c))
            ∙ cases (s0.test y.condition c) y.value (value_at s0 (take i xs) c) (value_at s0 (take j ys) c) (λ t. other_none s0 ys xs j i y c (AreLeavesApart-sym a) l e t)
            ∙ ap (λ o. option_or (value_at s0 (take i xs) c) o) (sym (next.more c));
      };
    }
  where
    cases : (b : Bool) (v : T) (m r : Option T) → (b ≡ true → m ≡ None) → (if b then Some v else option_or m r) ≡ option_or m (if b then Some v else r)
    cases true v m r n = rw (n refl) refl
    cases false v m r n = refl

-- two readings of one place
one_item : {X : Type 0} (xs : List X) (i : ℕ) (x y : X) → i < length xs → x ≡ get_or xs i x → y ≡ get_or xs i y → y ≡ x
one_item [] i x y l e f = absurd (omega (arith, l))
one_item (z ∷ zs) zero x y l e f = f ∙ sym e
one_item (z ∷ zs) (suc i) x y l e f = one_item zs i x y (omega (arith, l)) e f

pub IsMerging-there_first : {T S I : Type 0} (cmp : T → T → Ordering) {s0 s1 : Sets I} (xs ys : List (Leaf T S I)) (i j : ℕ) (x : Leaf T S I) (made : List (Leaf T S I)) → AreLeaves cmp s0 xs → AreLeavesApart s0 xs ys → i < length xs → x ≡ get_or xs i x → IsMerging cmp s0 s1 xs ys i j made → IsApart s1 (get_or xs i x).condition made
IsMerging-there_first {T = T} {S = S} {I = I} cmp {s1 = s1} xs ys i j x made h a l e r =
    let P : Leaf T S I → Type 0 = λ z. IsApart s1 z.condition made in
    subst P e (IsMerging-apart_first cmp xs ys i j x made h a l e r)

pub IsMerging-there_second : {T S I : Type 0} (cmp : T → T → Ordering) {s0 s1 : Sets I} (xs ys : List (Leaf T S I)) (i j : ℕ) (y : Leaf T S I) (made : List (Leaf T S I)) → AreLeaves cmp s0 ys → AreLeavesApart s0 xs ys → j < length ys → y ≡ get_or ys j y → IsMerging cmp s0 s1 xs ys i j made → IsApart s1 (get_or ys j y).condition made
IsMerging-there_second {T = T} {S = S} {I = I} cmp {s1 = s1} xs ys i j y made h a l e r =
    let P : Leaf T S I → Type 0 = λ z. IsApart s1 z.condition made in
    subst P e (IsMerging-apart_second cmp xs ys i j y made h a l e r)

pub IsMerging-took_first : {T S I : Type 0} (cmp : T → T → Ordering) {s0 s1 s2 : Sets I} (xs ys : List (Leaf T S I)) (i j : ℕ) (x y : Leaf T S I) (made after : List (Leaf T S I)) → AreLeaves cmp s0 xs → i < length xs → x ≡ get_or xs i x → y ≡ get_or xs i y → IsMerging cmp s0 s1 xs ys i j made → Extends s1 s2 → AreLeavesOf cmp s2 (value_under s1 (get_or xs i y).condition (get_or xs i x).value (value_at s1 made)) after → IsMerging cmp s0 s2 xs ys (i + 1) j after
IsMerging-took_first {T = T} {S = S} {I = I} cmp {s1 = s1} {s2 = s2} xs ys i j x y made after h l e f r e1 u =
    let P : Leaf T S I → Type 0 = λ w. AreLeavesOf cmp s2 (value_under s1 (get_or xs i y).condition w.value (value_at s1 made)) after in
    let Q : Leaf T S I → Type 0 = λ z. AreLeavesOf cmp s2 (value_under s1 z.condition x.value (value_at s1 made)) after in
    IsMerging-first cmp xs ys i j x made after h l e r e1 (subst Q (sym f ∙ one_item xs i x y l e f) (subst P (sym e) u))

pub IsMerging-took_second : {T S I : Type 0} (cmp : T → T → Ordering) {s0 s1 s2 : Sets I} (xs ys : List (Leaf T S I)) (i j : ℕ) (x y : Leaf T S I) (made after : List (Leaf T S I)) → AreLeaves cmp s0 ys → AreLeavesApart s0 xs ys → j < length ys → x ≡ get_or ys j x → y ≡ get_or ys j y → IsMerging cmp s0 s1 xs ys i j made → Extends s1 s2 → AreLeavesOf cmp s2 (value_under s1 (get_or ys j y).condition (get_or ys j x).value (value_at s1 made)) after → IsMerging cmp s0 s2 xs ys i (j + 1) after
IsMerging-took_second {T = T} {S = S} {I = I} cmp {s1 = s1} {s2 = s2} xs ys i j x y made after h a l e f r e1 u =
    let P : Leaf T S I → Type 0 = λ w. AreLeavesOf cmp s2 (value_under s1 (get_or ys j y).condition w.value (value_at s1 made)) after in
    let Q : Leaf T S I → Type 0 = λ z. AreLeavesOf cmp s2 (value_under s1 z.condition x.value (value_at s1 made)) after in
    IsMerging-second cmp xs ys i j x made after h a l e r e1 (subst Q (sym f ∙ one_item ys j x y l e f) (subst P (sym e) u))

pub IsMerging-end : {T S I : Type 0} (cmp : T → T → Ordering) {s0 s1 : Sets I} (xs ys : List (Leaf T S I)) (i j : ℕ) (made : List (Leaf T S I)) → IsMerging cmp s0 s1 xs ys i j made → length xs ≤ i → length ys ≤ j → AreLeavesOf cmp s1 (first_of (value_at s0 xs) (value_at s0 ys)) made
IsMerging-end cmp xs ys i j made r l m = rw (take_all i xs l, take_all j ys m) at r.leaves

pub ruleset leaf_merges = (Extends-trans, AreLeaves-extends, next_leaf, next_known, IsMerging-start, IsMerging-end)

-- the lifted leaves of the first i
pub record IsMapping {T U S I : Type 0} (cmp : U → U → Ordering) (start sets : Sets I) (R : T → U → Type 0) (xs : List (Leaf T S I)) (i : ℕ) (made : List (Leaf U S I)) : Type 0 where
  pub extends : Extends start sets
  pub leaves : AreLifted cmp sets R (value_at start (take i xs)) made

lifted_none : {T U : Type 0} (R : T → U → Type 0) (r : Option T) (o : Option U) → r ≡ None → IsLifted R r o → o ≡ None
lifted_none R None o e h = h
lifted_none R (Some v) o e h = cc

lifted_cases : {T U : Type 0} (R : T → U → Type 0) (b : Bool) (v : T) (u : U) (r : Option T) (o : Option U) → R v u → IsLifted R r o → IsLifted R (if b then Some v else r) (if b then Some u else o)
lifted_cases R true v u r o p h = p
lifted_cases R false v u r o p h = h

pub IsMapping-apart : {T U S I : Type 0} (cmp : T → T → Ordering) (cmp_u : U → U → Ordering) {s0 s1 : Sets I} (R : T → U → Type 0) (xs : List (Leaf T S I)) (i : ℕ) (x : Leaf T S I) (made : List (Leaf U S I)) → AreLeaves cmp s0 xs → i < length xs → x ≡ get_or xs i x → IsMapping cmp_u s0 s1 R xs i made → IsApart s1 x.condition made
IsMapping-apart cmp cmp_u {s0 = s0} {s1 = s1} R xs i x made h l e r =
    let next = next_leaf cmp s0 xs i x h l e in
    record { none = λ c t. lifted_none R (value_at s0 (take i xs) c) (value_at s1 made c) (next.before.none c (sym (r.extends.test x.condition c next.known) ∙ t)) (r.leaves.values c) }

pub IsMapping-step : {T U S I : Type 0} (cmp : T → T → Ordering) (cmp_u : U → U → Ordering) {s0 s1 s2 : Sets I} (R : T → U → Type 0) (xs : List (Leaf T S I)) (i : ℕ) (x : Leaf T S I) (u : U) (made after : List (Leaf U S I)) → AreLeaves cmp s0 xs → i < length xs → x ≡ get_or xs i x → IsMapping cmp_u s0 s1 R xs i made → R x.value u → Extends s1 s2 → AreLeavesOf cmp_u s2 (value_under s1 x.condition u (value_at s1 made)) after → IsMapping cmp_u s0 s2 R xs (i + 1) after
IsMapping-step {T = T} {U = U} cmp cmp_u {s0 = s0} {s1 = s1} R xs i x u made after h l e r p e1 a =
    let next = next_leaf cmp s0 xs i x h l e in
    record {
      extends = Extends-trans r.extends e1;
      leaves = record {
        are_leaves = a.are_leaves;
        values = λ c.
            let same = a.values c ∙ ap (λ b. if b then Some u else value_at s1 made c) (r.extends.test x.condition c next.known) in
            rw (next.more c, same) (lifted_cases R (s0.test x.condition c) x.value u (value_at s0 (take i xs) c) (value_at s1 made c) p (r.leaves.values c));
      };
    }

pub IsMapping-end : {T U S I : Type 0} (cmp : U → U → Ordering) {s0 s1 : Sets I} (R : T → U → Type 0) (xs : List (Leaf T S I)) (i : ℕ) (made : List (Leaf U S I)) → IsMapping cmp s0 s1 R xs i made → length xs ≤ i → AreLifted cmp s1 R (value_at s0 xs) made
IsMapping-end cmp R xs i made r l = rw (take_all i xs l) at r.leaves

-- where a condition holds, the lifted leaves of the first i, and elsewhere what was there before
pub record IsZipping {U V S I : Type 0} (cmp : V → V → Ordering) (start sets : Sets I) (R : U → V → Type 0) (condition : I) (ys : List (Leaf U S I)) (i : ℕ) (before made : List (Leaf V S I)) : Type 0 where
  pub extends : Extends start sets
  pub leaves : IsLiftedUnder cmp start sets R condition (value_at start (take i ys)) before made

pub IsZipping-start : {U V S I : Type 0} (cmp : V → V → Ordering) (sets : Sets I) (R : U → V → Type 0) (condition : I) (ys : List (Leaf U S I)) (before : List (Leaf V S I)) → AreLeaves cmp sets before → IsApart sets condition before → IsZipping cmp sets sets R condition ys 0 before before
IsZipping-start cmp sets R condition ys before h a = record {
  extends = Extends-refl sets;
  leaves = record { are_leaves = h; inside = λ c t. a.none c t; outside = λ c t. refl };
}

and_parts : (a b : Bool) → (a && b) ≡ true → (a ≡ true) × (b ≡ true)
and_parts true b h = (refl, h)
and_parts false b h = cc

pub IsZipping-apart : {U V S I : Type 0} (cmp : U → U → Ordering) (cmp_v : V → V → Ordering) {s0 s1 s2 : Sets I} (R : U → V → Type 0) (condition : I) (ys : List (Leaf U S I)) (i : ℕ) (y : Leaf U S I) (k : I) (before made : List (Leaf V S I)) → AreLeaves cmp s0 ys → s0.is_known condition ≡ true → i < length ys → y ≡ get_or ys i y → IsZipping cmp_v s0 s1 R condition ys i before made → Extends s1 s2 → IsSet s2 k (λ c. s1.test condition c && s1.test y.condition c) → IsApart s2 k made
IsZipping-apart cmp cmp_v {s0 = s0} {s1 = s1} R condition ys i y k before made h w l e r e1 u =
    let next = next_leaf cmp s0 ys i y h l e in
    record {
      none = λ c t.
          let both = and_parts (s1.test condition c) (s1.test y.condition c) (sym (u.test c) ∙ t) in
          value_at-extends cmp_v e1 made r.leaves.are_leaves c
          ∙ lifted_none R (value_at s0 (take i ys) c) (value_at s1 made c) (next.before.none c (sym (r.extends.test y.condition c next.known) ∙ both.1)) (r.leaves.inside c (sym (r.extends.test condition c w) ∙ both.0));
    }

pub IsZipping-step : {U V S I : Type 0} (cmp : U → U → Ordering) (cmp_v : V → V → Ordering) {s0 s1 s2 s3 : Sets I} (R : U → V → Type 0) (condition : I) (ys : List (Leaf U S I)) (i : ℕ) (y : Leaf U S I) (k : I) (v : V) (before made after : List (Leaf V S I)) → AreLeaves cmp s0 ys → s0.is_known condition ≡ true → i < length ys → y ≡ get_or ys i y → IsZipping cmp_v s0 s1 R condition ys i before made → Extends s1 s2 → IsSet s2 k (λ c. s1.test condition c && s1.test y.condition c) → R y.value v → Extends s2 s3 → AreLeavesOf cmp_v s3 (value_under s2 k v (value_at s2 made)) after → IsZipping cmp_v s0 s3 R condition ys (i + 1) before after
IsZipping-step {U = U} {V = V} cmp cmp_v {s0 = s0} {s1 = s1} {s2 = s2} {s3 = s3} R condition ys i y k v before made after h w l e r e1 u p e2 a =
    let next = next_leaf cmp s0 ys i y h l e in
    let now : (c : List Bool) → value_at s3 after c ≡ (if (s0.test condition c && s0.test y.condition c) then Some v else value_at s1 made c) = λ c.
    a.values c ∙ ap (λ b. if b then Some v else value_at s2 made c) (u.test c)
    ∙ rw (r.extends.test condition c w, r.extends.test y.condition c next.known) (ap (λ o. if (s0.test condition c && s0.test y.condition c) then Some v else o) (value_at-extends cmp_v e1 made r.leaves.are_leaves c)) in
    record {
      extends = Extends-trans r.extends (Extends-trans e1 e2);
      leaves = record {
        are_leaves = a.are_leaves;
        inside = λ c t. rw (now c, next.more c, t) (lifted_cases R (s0.test y.condition c) y.value v (value_at s0 (take i ys) c) (value_at s1 made c) p (r.leaves.inside c t));
        outside = λ c t. rw (now c, t) (r.leaves.outside c t);
      };
    }

pub IsZipping-end : {U V S I : Type 0} (cmp : V → V → Ordering) {s0 s1 : Sets I} (R : U → V → Type 0) (condition : I) (ys : List (Leaf U S I)) (i : ℕ) (before made : List (Leaf V S I)) → IsZipping cmp s0 s1 R condition ys i before made → length ys ≤ i → IsLiftedUnder cmp s0 s1 R condition (value_at s0 ys) before made
IsZipping-end cmp R condition ys i before made r l = rw (take_all i ys l) at r.leaves

-- the lifted leaves of the first i and of all others
pub record IsZippingAll {T U V S I : Type 0} (cmp : V → V → Ordering) (start sets : Sets I) (R : T → U → V → Type 0) (xs : List (Leaf T S I)) (ys : List (Leaf U S I)) (i : ℕ) (made : List (Leaf V S I)) : Type 0 where
  pub extends : Extends start sets
  pub leaves : AreLifted2 cmp sets R (value_at start (take i xs)) (value_at start ys) made

lifted2_none : {T U V : Type 0} (R : T → U → V → Type 0) (r : Option T) (q : Option U) (o : Option V) → r ≡ None → IsLifted2 R r q o → o ≡ None
lifted2_none R None q o e h = h
lifted2_none R (Some v) q o e h = cc

pub IsZippingAll-apart : {T U V S I : Type 0} (cmp : T → T → Ordering) (cmp_v : V → V → Ordering) {s0 s1 : Sets I} (R : T → U → V → Type 0) (xs : List (Leaf T S I)) (ys : List (Leaf U S I)) (i : ℕ) (x : Leaf T S I) (made : List (Leaf V S I)) → AreLeaves cmp s0 xs → i < length xs → x ≡ get_or xs i x → IsZippingAll cmp_v s0 s1 R xs ys i made → IsApart s1 x.condition made
IsZippingAll-apart cmp cmp_v {s0 = s0} {s1 = s1} R xs ys i x made h l e r =
    let next = next_leaf cmp s0 xs i x h l e in
    record { none = λ c t. lifted2_none R (value_at s0 (take i xs) c) (value_at s0 ys c) (value_at s1 made c) (next.before.none c (sym (r.extends.test x.condition c next.known) ∙ t)) (r.leaves.values c) }

pub IsZippingAll-step : {T U V S I : Type 0} (cmp : T → T → Ordering) (cmp_u : U → U → Ordering) (cmp_v : V → V → Ordering) {s0 s1 s2 : Sets I} (R : T → U → V → Type 0) (xs : List (Leaf T S I)) (ys : List (Leaf U S I)) (i : ℕ) (x : Leaf T S I) (made after : List (Leaf V S I)) → AreLeaves cmp s0 xs → AreLeaves cmp_u s0 ys → i < length xs → x ≡ get_or xs i x → IsZippingAll cmp_v s0 s1 R xs ys i made → Extends s1 s2 → IsLiftedUnder cmp_v s1 s2 (R x.value) x.condition (value_at s1 ys) made after → IsZippingAll cmp_v s0 s2 R xs ys (i + 1) after
IsZippingAll-step {T = T} {U = U} {V = V} cmp cmp_u cmp_v {s0 = s0} {s1 = s1} {s2 = s2} R xs ys i x made after h h2 l e r e1 a =
    let next = next_leaf cmp s0 xs i x h l e in
    record {
      extends = Extends-trans r.extends e1;
      leaves = record {
        are_leaves = a.are_leaves;
        values = λ c. rw (next.more c) (cases (s0.test x.condition c) x.value (value_at s0 (take i xs) c) (value_at s0 ys c) (value_at s2 after c)
            (λ t. rw (value_at-extends cmp_u r.extends ys h2 c) at (a.inside c (r.extends.test x.condition c next.known ∙ t)))
            (λ t. rw (a.outside c (r.extends.test x.condition c next.known ∙ t)) (r.leaves.values c)));
      };
    }
  where
    cases : (b : Bool) (v : T) (r : Option T) (q : Option U) (o : Option V) → (b ≡ true → IsLifted (R v) q o) → (b ≡ false → IsLifted2 R r q o) → IsLifted2 R (if b then Some v else r) q o
    cases true v r q o f g = f refl
    cases false v r q o f g = g refl

pub IsZippingAll-end : {T U V S I : Type 0} (cmp : V → V → Ordering) {s0 s1 : Sets I} (R : T → U → V → Type 0) (xs : List (Leaf T S I)) (ys : List (Leaf U S I)) (i : ℕ) (made : List (Leaf V S I)) → IsZippingAll cmp s0 s1 R xs ys i made → length xs ≤ i → AreLifted2 cmp s1 R (value_at s0 xs) (value_at s0 ys) made
IsZippingAll-end cmp R xs ys i made r l = rw (take_all i xs l) at r.leaves

pub ruleset leaf_loops = (Extends-trans, AreLeaves-extends, next_leaf, next_known, IsRestricting-step, IsRestricting-end, IsMapping-step, IsMapping-end, IsZipping-start)

-- the leaves before i have no value
pub record IsScanning {T S I : Type 0} (sets : Sets I) (xs : List (Leaf T S I)) (i : ℕ) (c : List Bool) : Type 0 where
  pub rest : value_at sets xs c ≡ value_at sets (drop i xs) c

pub IsScanning-here : {T S I : Type 0} (sets : Sets I) (xs : List (Leaf T S I)) (i : ℕ) (x : Leaf T S I) (c : List Bool) → i < length xs → x ≡ get_or xs i x → IsScanning sets xs i c → sets.test x.condition c ≡ true → Some x.value ≡ value_at sets xs c
IsScanning-here sets xs i x c l e s t = sym (s.rest ∙ rw (drop-cons xs i x l, ← e, t) refl)

pub IsScanning-next : {T S I : Type 0} (sets : Sets I) (xs : List (Leaf T S I)) (i : ℕ) (x : Leaf T S I) (c : List Bool) → i < length xs → x ≡ get_or xs i x → IsScanning sets xs i c → sets.test x.condition c ≡ false → IsScanning sets xs (i + 1) c
IsScanning-next sets xs i x c l e s t = record { rest = s.rest ∙ rw (add-one, drop-cons xs i x l, ← e, t) refl }

pub IsScanning-end : {T S I : Type 0} (sets : Sets I) (xs : List (Leaf T S I)) (i : ℕ) (c : List Bool) → IsScanning sets xs i c → length xs ≤ i → None ≡ value_at sets xs c
IsScanning-end sets xs i c s l = sym (s.rest ∙ rw (drop_all i xs l) refl)

pub leaf_known : {T S I : Type 0} (cmp : T → T → Ordering) (sets : Sets I) (xs : List (Leaf T S I)) (i : ℕ) (x : Leaf T S I) → AreLeaves cmp sets xs → i < length xs → x ≡ get_or xs i x → sets.is_known x.condition ≡ true
leaf_known cmp sets xs i x h l e = (at_place cmp sets xs i x h l e).0

pub ruleset leaf_scans = (IsScanning-here, IsScanning-next, IsScanning-end, leaf_known)
