-- How a loop makes steps one after the other.
use Rattle.std.specs.Prelude.{◌≡◌, ℕ, suc, ◌+◌, ◌-◌, ◌≤◌, ◌<◌, Ok, Err, refl}
use Rattle.std.proofs.Common.{sym, ◌∙◌, arith}
use Rattle.vx_source_words.specs.declared.fault.LineFault.{LineFault}
use Rattle.vx_source_words.specs.declared.fault.LineFault.TheVariants as fault
use Rattle.vx_source_words.specs.Reading.{Read, ◌>>=◌, steps, Fails}

-- after i of so many steps, one more
pub steps-goes_on : {A : Type 0} (step : A → Read A) (x y : A) (count i : ℕ) (total : Read A) → i < count → step x ≡ Ok y
    → steps step x (count - i) ≡ total → steps step y (count - (i + 1)) ≡ total
unfolding steps
steps-goes_on step x y count i total lt h so_far =
    let k : count - i ≡ suc (count - (i + 1)) = omega arith in
    let one : steps step x (count - i) ≡ steps step y (count - (i + 1)) = rw (k, h) refl in
    sym one ∙ so_far

-- one that is refused
pub steps-ends : {A B : Type 0} (e : LineFault) (step : A → Read A) (f : A → Read B) (x : A) (count i : ℕ) (total : Read A) → i < count → Fails e (step x)
    → steps step x (count - i) ≡ total → Fails e (total >>= f)
unfolding steps
steps-ends fault.NoMemory step f x count i total lt h so_far = tt
steps-ends {A = A} {B = B} (fault.Refused reason) step f x count i total lt h so_far =
    let k : count - i ≡ suc (count - (i + 1)) = omega arith in
    let one : steps step x (count - i) ≡ Err reason = rw (k, h) refl in
    let all : total ≡ Err reason = sym so_far ∙ one in
    rw all refl

-- the last
pub steps-done : {A : Type 0} (step : A → Read A) (x : A) (count i : ℕ) (total : Read A) → count ≤ i
    → steps step x (count - i) ≡ total → total ≡ Ok x
unfolding steps
steps-done step x count i total le so_far =
    let k : count - i ≡ 0 = omega arith in
    let one : steps step x (count - i) ≡ Ok x = rw k refl in
    sym so_far ∙ one
