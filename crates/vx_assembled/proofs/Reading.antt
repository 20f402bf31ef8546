-- What the steps of reading a source gave.
use Rattle.std.proofs.Common.{◌≡◌, ℕ, zero, suc, Bool, true, false, Ok, Err, refl}
use Rattle.vx_source_words.specs.Reading.{Read, ◌>>=◌, check, steps}

-- the value of a step that was not refused
pub bind_ok : {A B : Type 0} (r : Read A) (f : A → Read B) (y : B) → (r >>= f) ≡ Ok y → (x : A) × (r ≡ Ok x) × (f x ≡ Ok y)
bind_ok (Ok x) f y e = (x, refl, e)
bind_ok (Err d) f y e = absurd cc

pub check_ok : {A : Type 0} (test : Bool) (reason : ℕ) (next : Read A) (y : A) → check test reason next ≡ Ok y → (test ≡ true) × (next ≡ Ok y)
check_ok true reason next y e = (refl, e)
check_ok false reason next y e = absurd cc

-- what each step keeps
pub steps_keep : {A : Type 0} (P : A → Type 0) (step : A → Read A) → ((x y : A) → P x → step x ≡ Ok y → P y) → (n : ℕ) (x y : A) → P x → steps step x n ≡ Ok y → P y
unfolding steps
steps_keep {A = A} P step keeps zero x y h e = let same : x ≡ y = cc in rw same at h
steps_keep P step keeps (suc n) x y h e =
    let first = bind_ok (step x) (λ z. steps step z n) y e in
    steps_keep P step keeps n first.0 y (keeps x first.0 h first.1) first.2
