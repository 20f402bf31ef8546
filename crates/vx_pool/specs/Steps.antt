-- How a loop makes steps one after the other.
use Rattle.std.specs.Prelude.{◌≡◌, ℕ, suc, ◌+◌, ◌-◌, ◌≤◌, ◌<◌, List, [], ◌∷◌, ◌++◌, Ok, Err, refl}
use Rattle.std.proofs.Common.{sym, ◌∙◌, arith}
use Rattle.vx_pool.specs.declared.fault.ClassFault.{ClassFault}
use Rattle.vx_pool.specs.declared.fault.ClassFault.TheVariants as fault
use Rattle.vx_pool.specs.Place.{Place}
use Rattle.vx_pool.specs.Reading.{Read, steps, item_step, behind, Fails}

-- after i of so many steps, one more
pub steps-goes_on : {A : Type 0} (step : A → Place → Read A) (x y : A) (count i : ℕ) (s t : Place) (total : Read A) → i < count → step x s ≡ Ok (y, t)
    → steps step x (count - i) s ≡ total → steps step y (count - (i + 1)) t ≡ total
unfolding steps
steps-goes_on step x y count i s t total lt h so_far =
    let k : count - i ≡ suc (count - (i + 1)) = omega arith in
    let one : steps step x (count - i) s ≡ steps step y (count - (i + 1)) t = rw (k, h) refl in
    sym one ∙ so_far

-- one that is refused
pub steps-ends : {A : Type 0} (e : ClassFault) (step : A → Place → Read A) (x : A) (count i : ℕ) (s : Place) (total : Read A) → i < count → Fails e (step x s)
    → steps step x (count - i) s ≡ total → Fails e total
unfolding steps
steps-ends fault.NoMemory step x count i s total lt h so_far = tt
steps-ends (fault.Bad at reason) step x count i s total lt h so_far =
    let k : count - i ≡ suc (count - (i + 1)) = omega arith in
    let one : steps step x (count - i) s ≡ Err (record { at = at; reason = reason }) = rw (k, h) refl in
    sym so_far ∙ one

-- the last
pub steps-done : {A : Type 0} (step : A → Place → Read A) (x : A) (count i : ℕ) (s : Place) (total : Read A) → count ≤ i
    → steps step x (count - i) s ≡ total → total ≡ Ok (x, s)
unfolding steps
steps-done step x count i s total le so_far =
    let k : count - i ≡ 0 = omega arith in
    let one : steps step x (count - i) s ≡ Ok (x, s) = rw k refl in
    sym so_far ∙ one

-- ---- the same, for items that are gathered in a list

pub items-goes_on : {A : Type 0} (item : Place → Read A) (front : List A) (x : A) (count i : ℕ) (s t : Place) (total : Read (List A)) → i < count → item s ≡ Ok (x, t)
    → steps (item_step item) front (count - i) s ≡ total → steps (item_step item) (front ++ x ∷ []) (count - (i + 1)) t ≡ total
items-goes_on item front x count i s t total lt h so_far =
    steps-goes_on (item_step item) front (front ++ x ∷ []) count i s t total lt (rw h refl) so_far

pub items-ends : {A : Type 0} (e : ClassFault) (item : Place → Read A) (front : List A) (count i : ℕ) (s : Place) (total : Read (List A)) → i < count → Fails e (item s)
    → steps (item_step item) front (count - i) s ≡ total → Fails e total
items-ends fault.NoMemory item front count i s total lt h so_far = tt
items-ends (fault.Bad at reason) item front count i s total lt h so_far =
    steps-ends (fault.Bad at reason) (item_step item) front count i s total lt (rw h refl) so_far

pub behind-goes_on : {A : Type 0} (item : List A → Place → Read A) (front : List A) (x : A) (count i : ℕ) (s t : Place) (total : Read (List A)) → i < count → item front s ≡ Ok (x, t)
    → steps (behind item) front (count - i) s ≡ total → steps (behind item) (front ++ x ∷ []) (count - (i + 1)) t ≡ total
behind-goes_on item front x count i s t total lt h so_far =
    steps-goes_on (behind item) front (front ++ x ∷ []) count i s t total lt (rw h refl) so_far

pub behind-ends : {A : Type 0} (e : ClassFault) (item : List A → Place → Read A) (front : List A) (count i : ℕ) (s : Place) (total : Read (List A)) → i < count → Fails e (item front s)
    → steps (behind item) front (count - i) s ≡ total → Fails e total
behind-ends fault.NoMemory item front count i s total lt h so_far = tt
behind-ends (fault.Bad at reason) item front count i s total lt h so_far =
    steps-ends (fault.Bad at reason) (behind item) front count i s total lt (rw h refl) so_far
