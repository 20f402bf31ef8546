-- Stamps of marks.
use Rattle.std.proofs.Common.{◌≡◌, ◌≢◌, ℕ, ◌<◌, ◌≤◌, Bool, true, false, List, [], ◌∷◌, ◌++◌, refl, arith, zero, suc, length, take, set, inl, inr}
use Rattle.std.specs.Prelude.{nat_eq, replicate, slice_index_or, if◌then◌else◌}
use Rattle.std.proofs.lemmas.Bool.{cases_eq}
use Rattle.std.proofs.lemmas.Bool.Decides.{nat_tests}
use Rattle.std.proofs.lemmas.List.{get_or-set_same, get_or-set_other}
use Rattle.vx_bdd.specs.Stamps.{has_stamp, AreUpTo}

pub AreUpTo-none : (current : ℕ) → AreUpTo current []
AreUpTo-none current = record { each = λ id. omega arith }

pub AreUpTo-later : {current later : ℕ} (stamps : List ℕ) → current ≤ later → AreUpTo current stamps → AreUpTo later stamps
AreUpTo-later stamps l h = record { each = λ id. omega (arith, l, h.each id) }

pub AreUpTo-same : {current : ℕ} (old new : List ℕ) → ((x : ℕ) → slice_index_or new x 0 ≡ slice_index_or old x 0) → AreUpTo current old → AreUpTo current new
AreUpTo-same old new s h = record { each = λ id. omega (arith, s id, h.each id) }

pub AreUpTo-set : {current : ℕ} (stamps : List ℕ) (id : ℕ) → id < length stamps → AreUpTo current stamps → AreUpTo current (set stamps id current)
AreUpTo-set {current = current} stamps id l h = record {
  each = λ x. elim (cases_eq x id) [
    | inl e ↦ rw (e, get_or-set_same stamps id current 0 l) (omega arith)
    | inr n ↦ rw (get_or-set_other stamps id x current 0 n) (h.each x)
  ];
}

different : (x y : ℕ) → x < y → nat_eq x y ≡ false
different x y l = grind (arith, nat_tests)

-- a later compaction has no marks
pub no_stamp : (current later : ℕ) (stamps : List ℕ) (x : ℕ) → AreUpTo current stamps → current < later → has_stamp stamps later x ≡ false
no_stamp current later stamps x h l =
    let below : slice_index_or stamps x 0 < later = omega (arith, l, h.each x) in
    different (slice_index_or stamps x 0) later below

-- stamps that aren't there are 0
zeros : (k x : ℕ) → ◌≡◌ {A = ℕ} (slice_index_or (replicate k 0) x 0) 0
zeros zero x = refl
zeros (suc k) zero = refl
zeros (suc k) (suc x) = zeros k x

pub padded : (stamps : List ℕ) (n k x : ℕ) → length stamps ≤ n → slice_index_or (take n stamps ++ replicate k 0) x 0 ≡ slice_index_or stamps x 0
padded [] zero k x l = zeros k x
padded [] (suc n) k x l = zeros k x
padded (y ∷ ys) zero k x l = absurd (omega (arith, l))
padded (y ∷ ys) (suc n) k zero l = refl
padded (y ∷ ys) (suc n) k (suc x) l = padded ys n k x (omega (arith, l))

-- stamps that were made to reach further, or not
pub resized : (old new : List ℕ) (n k : ℕ) (done : Bool) → length old ≤ n → new ≡ (if done then take n old ++ replicate k 0 else old) → (x : ℕ) → slice_index_or new x 0 ≡ slice_index_or old x 0
resized old new n k true l e x = rw e (padded old n k x l)
resized old new n k false l e x = rw e refl

same_eq : (x : ℕ) → nat_eq x x ≡ true
same_eq x = grind (arith, nat_tests)

other_eq : (x y : ℕ) → y ≢ x → nat_eq x y ≡ false
other_eq x y n = grind (arith, nat_tests)

-- one stamp more
pub stamped : (old new : List ℕ) (current id x : ℕ) → ((y : ℕ) → slice_index_or new y 0 ≡ slice_index_or old y 0) → id < length new → has_stamp (set new id current) current x ≡ (if nat_eq id x then true else has_stamp old current x)
stamped old new current id x s l = elim (cases_eq x id) [
  | inl e ↦ rw (e, same_eq id, get_or-set_same new id current 0 l, same_eq current) refl
  | inr n ↦ rw (other_eq id x n, get_or-set_other new id x current 0 n, s x) refl
]

pub ruleset stamp_laws = (AreUpTo-none, AreUpTo-later, AreUpTo-same, AreUpTo-set, no_stamp, padded, stamped)
