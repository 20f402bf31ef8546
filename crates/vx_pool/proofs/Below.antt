-- Tests of all numbers below one.
use Rattle.std.proofs.Common.{◌≡◌, ℕ, zero, suc, ◌<◌, Bool, false, refl, subst, inl, inr, arith}
use Rattle.std.proofs.Math.Bool.{and-false}
use Rattle.std.proofs.lemmas.Bool.{cases_lt}
use Rattle.vx_pool.specs.Instructions.{all_below}

pub all_below-false : (n k : ℕ) (test : ℕ → Bool) → k < n → test k ≡ false → all_below n test ≡ false
all_below-false zero k test lt fails = absurd (omega arith)
all_below-false (suc n) k test lt fails =
    elim (cases_lt k n) [
      | inl below ↦ rw (all_below-false n k test below fails) refl
      | inr le ↦
          let e : k ≡ n = omega arith in
          let f : test n ≡ false = subst (λ m. test m ≡ false) e fails in
          rw f (and-false (all_below n test))
    ]
