-- Targets that are still open: what a later space keeps of them, and how a configuration divides them.
use Rattle.std.proofs.Common.{◌≡◌, ◌≢◌, ℕ, ◌+◌, ◌<◌, ◌≤◌, zero, suc, Bool, true, false, List, [], ◌∷◌, ◌++◌, length, get_or, refl, sym, ◌∙◌, ap, subst, arith}
use Rattle.std.specs.Prelude.{Some, None, cond, nat_eq}
use Rattle.std.specs.List.{AllByRecursion, count_by}
use Rattle.std.proofs.lemmas.List.Sums.{sum_by-cons, sum_by_push}
use Rattle.vx_space.specs.Sets.{Sets, Extends}
use Rattle.vx_cover.specs.declared.target.Target.{Target}
use Rattle.vx_cover.specs.Targets.{AreOpen, AreRight, covered, first_set, left_open, times_open}

abbrev pub counted : Bool → ℕ
counted b = cond b 1 0

pub open_at : {I : Type 0} (s : Sets I) (ts : List (Target I)) (i : ℕ) (t : Target I) → i < length ts → t ≡ get_or ts i t → AreOpen s ts → (s.is_known t.set ≡ true) × (t.set ≢ s.never)
open_at s [] i t l e h = absurd (omega (arith, l))
open_at {I} s (x ∷ xs) zero t l e h =
    let P : Target I → Type 0 = λ y. (s.is_known y.set ≡ true) × (y.set ≢ s.never) in
    subst P (sym e) h.0
open_at s (x ∷ xs) (suc i) t l e h = open_at s xs i t (omega (arith, l)) e h.1

pub AreOpen-extends : {I : Type 0} {old new : Sets I} → Extends old new → (ts : List (Target I)) → AreOpen old ts → AreOpen new ts
AreOpen-extends x [] h = tt
AreOpen-extends x (t ∷ ts) h = ((x.known t.set h.0.0, λ e. h.0.1 (e ∙ x.never)), AreOpen-extends x ts h.1)

pub AreRight-extends : {I : Type 0} {old new : Sets I} → Extends old new → (has : ℕ → List Bool → Bool) (ts : List (Target I)) → AreOpen old ts → AreRight old has ts → AreRight new has ts
AreRight-extends x has [] h r = tt
AreRight-extends x has (t ∷ ts) h r = ((λ c. x.test t.set c h.0.0 ∙ r.0 c), AreRight-extends x has ts h.1 r.1)

pub AreOpen-push : {I : Type 0} (s : Sets I) (ts : List (Target I)) (t : Target I) → AreOpen s ts → s.is_known t.set ≡ true → t.set ≢ s.never → AreOpen s (ts ++ t ∷ [])
AreOpen-push s [] t h k n = ((k, n), tt)
AreOpen-push s (x ∷ xs) t h k n = (h.0, AreOpen-push s xs t h.1 k n)

pub AreRight-push : {I : Type 0} (s : Sets I) (has : ℕ → List Bool → Bool) (ts : List (Target I)) (t : Target I) → AreRight s has ts → ((c : List Bool) → s.test t.set c ≡ has t.index c) → AreRight s has (ts ++ t ∷ [])
AreRight-push s has [] t r e = (e, tt)
AreRight-push s has (x ∷ xs) t r e = (r.0, AreRight-push s has xs t r.1 e)

pub times_open-push : {I : Type 0} (index : ℕ) (ts : List (Target I)) (t : Target I) → times_open index (ts ++ t ∷ []) ≡ times_open index ts + cond (nat_eq index t.index) 1 0
times_open-push {I} index ts t = sum_by_push (λ (x : Target I). cond (nat_eq index x.index) 1 0) ts t

-- what a configuration meets and what it leaves open are all
pub times_open-divided : {I : Type 0} (s : Sets I) (c : List Bool) (index : ℕ) (ts : List (Target I)) → count_by (nat_eq index) (covered s c ts) + times_open index (left_open s c ts) ≡ times_open index ts
times_open-divided s c index [] = refl
times_open-divided {I} s c index (t ∷ ts) = by (s.test t.set c) refl (times_open-divided s c index ts)
  where
    all : times_open index (t ∷ ts) ≡ cond (nat_eq index t.index) 1 0 + times_open index ts
    all = sum_by-cons (λ (x : Target I). cond (nat_eq index x.index) 1 0) t ts

    by : (b : Bool) → s.test t.set c ≡ b → count_by (nat_eq index) (covered s c ts) + times_open index (left_open s c ts) ≡ times_open index ts → count_by (nat_eq index) (covered s c (t ∷ ts)) + times_open index (left_open s c (t ∷ ts)) ≡ times_open index (t ∷ ts)
    by true e rest =
        let here : count_by (nat_eq index) (t.index ∷ covered s c ts) ≡ cond (nat_eq index t.index) 1 0 + count_by (nat_eq index) (covered s c ts) = sum_by-cons (λ n. cond (nat_eq index n) 1 0) t.index (covered s c ts) in
        rw e (omega (arith, here, all, rest))
    by false e rest =
        let here : times_open index (t ∷ left_open s c ts) ≡ cond (nat_eq index t.index) 1 0 + times_open index (left_open s c ts) = sum_by-cons (λ (x : Target I). cond (nat_eq index x.index) 1 0) t (left_open s c ts) in
        rw e (omega (arith, here, all, rest))

pub AreOpen-left : {I : Type 0} (s : Sets I) (c : List Bool) (ts : List (Target I)) → AreOpen s ts → AreOpen s (left_open s c ts)
AreOpen-left s c [] h = tt
AreOpen-left s c (t ∷ ts) h = by (s.test t.set c) refl (AreOpen-left s c ts h.1)
  where
    by : (b : Bool) → s.test t.set c ≡ b → AreOpen s (left_open s c ts) → AreOpen s (left_open s c (t ∷ ts))
    by true e rest = rw e rest
    by false e rest = rw e (h.0, rest)

pub AreRight-left : {I : Type 0} (s : Sets I) (has : ℕ → List Bool → Bool) (c : List Bool) (ts : List (Target I)) → AreRight s has ts → AreRight s has (left_open s c ts)
AreRight-left s has c [] r = tt
AreRight-left s has c (t ∷ ts) r = by (s.test t.set c) refl (AreRight-left s has c ts r.1)
  where
    by : (b : Bool) → s.test t.set c ≡ b → AreRight s has (left_open s c ts) → AreRight s has (left_open s c (t ∷ ts))
    by true e rest = rw e rest
    by false e rest = rw e (r.0, rest)

-- what it meets it has
pub covered_right : {I : Type 0} (s : Sets I) (has : ℕ → List Bool → Bool) (c : List Bool) (ts : List (Target I)) → AreRight s has ts → AllByRecursion (λ index. has index c ≡ true) (covered s c ts)
covered_right s has c [] r = tt
covered_right s has c (t ∷ ts) r = by (s.test t.set c) refl (covered_right s has c ts r.1)
  where
    by : (b : Bool) → s.test t.set c ≡ b → AllByRecursion (λ index. has index c ≡ true) (covered s c ts) → AllByRecursion (λ index. has index c ≡ true) (covered s c (t ∷ ts))
    by true e rest = let here : has t.index c ≡ true = sym (r.0 c) ∙ e in rw e (here, rest)
    by false e rest = rw e rest

pub covered-extends : {I : Type 0} {old new : Sets I} → Extends old new → (c : List Bool) (ts : List (Target I)) → AreOpen old ts → covered new c ts ≡ covered old c ts
covered-extends x c [] h = refl
covered-extends x c (t ∷ ts) h = rw (x.test t.set c h.0.0, covered-extends x c ts h.1) refl

pub left-extends : {I : Type 0} {old new : Sets I} → Extends old new → (c : List Bool) (ts : List (Target I)) → AreOpen old ts → left_open new c ts ≡ left_open old c ts
left-extends x c [] h = refl
left-extends x c (t ∷ ts) h = rw (x.test t.set c h.0.0, left-extends x c ts h.1) refl

pub left_fewer : {I : Type 0} (s : Sets I) (c : List Bool) (ts : List (Target I)) → length (left_open s c ts) ≤ length ts
left_fewer s c [] = omega arith
left_fewer s c (t ∷ ts) = by (s.test t.set c) refl (left_fewer s c ts)
  where
    by : (b : Bool) → s.test t.set c ≡ b → length (left_open s c ts) ≤ length ts → length (left_open s c (t ∷ ts)) ≤ length (t ∷ ts)
    by true e rest = rw e (omega (arith, rest))
    by false e rest = rw e (omega (arith, rest))

-- a configuration in the first set leaves fewer open
pub fewer_open : {I : Type 0} (s : Sets I) (c : List Bool) (ends pieces : List (Target I)) (first : I) → first_set ends pieces ≡ Some first → s.test first c ≡ true → length (left_open s c ends) + length (left_open s c pieces) < length ends + length pieces
fewer_open s c [] [] first f e = cc
fewer_open s c [] (t ∷ ts) first f e =
    let same : t.set ≡ first = cc in
    let met : s.test t.set c ≡ true = ap (λ x. s.test x c) same ∙ e in
    rw met (omega (arith, left_fewer s c ts))
fewer_open s c (t ∷ ts) pieces first f e =
    let same : t.set ≡ first = cc in
    let met : s.test t.set c ≡ true = ap (λ x. s.test x c) same ∙ e in
    rw met (omega (arith, left_fewer s c ts, left_fewer s c pieces))

pub first_open : {I : Type 0} (s : Sets I) (ends pieces : List (Target I)) (first : I) → first_set ends pieces ≡ Some first → AreOpen s ends → AreOpen s pieces → (s.is_known first ≡ true) × (first ≢ s.never)
first_open s [] [] first f h k = cc
first_open {I} s [] (t ∷ ts) first f h k =
    let same : t.set ≡ first = cc in
    let P : I → Type 0 = λ x. (s.is_known x ≡ true) × (x ≢ s.never) in
    subst P same k.0
first_open {I} s (t ∷ ts) pieces first f h k =
    let same : t.set ≡ first = cc in
    let P : I → Type 0 = λ x. (s.is_known x ≡ true) × (x ≢ s.never) in
    subst P same h.0

-- where there is no first target, there is none
pub none_open : {I : Type 0} (ends pieces : List (Target I)) → first_set ends pieces ≡ None → (ends ≡ []) × (pieces ≡ [])
none_open [] [] f = (refl, refl)
none_open [] (t ∷ ts) f = cc
none_open (t ∷ ts) pieces f = cc
