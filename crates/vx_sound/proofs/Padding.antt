-- Behind the values that a method is given its local variables hold nothing.
use Rattle.std.proofs.Common.{List, [], ap, arith, length, refl, replicate, suc, true, zero, ℕ, ◌++◌, ◌+◌, ◌-◌, ◌∙◌, ◌∷◌, ◌≡◌, ◌≤◌}
use Rattle.std.proofs.lemmas.List.{take-replicate}
use Rattle.std.specs.Prelude.{take}
use Rattle.vx_link.specs.declared.program.Program.{Program}
use Rattle.vx_types.proofs.Lists.{list_fits}
use Rattle.vx_types.proofs.Tests.{both_first, both_second}
use Rattle.vx_types.specs.Fits.{all_fit, fits}
use Rattle.vx_types.specs.declared.types.VerType.{VerType}
use Rattle.vx_types.specs.declared.types.VerType.TheVariants as is

tops_fit : (p : Program) (n : ℕ) → all_fit p (replicate n is.Top) (replicate n is.Top) ≡ true
tops_fit p zero = refl
tops_fit p (suc n) = tops_fit p n

pub padded : (p : Program) (max : ℕ) (xs ys : List VerType) (n : ℕ) → all_fit p xs ys ≡ true → length ys ≤ max → max ≤ length ys + n
    → all_fit p (xs ++ replicate (max - length xs) is.Top) (take max (ys ++ replicate n is.Top)) ≡ true
padded p max [] [] n fit few enough =
    let all : max - 0 ≡ max = omega arith in
    ap (λ k. all_fit p (replicate k is.Top) (take max (replicate n is.Top))) all
    ∙ ap (λ (ts : List VerType). all_fit p (replicate max is.Top) ts) (take-replicate max n is.Top (omega (arith, enough)))
    ∙ tops_fit p max
padded p zero (x ∷ xs) (y ∷ ys) n fit few enough = absurd (omega (arith, few))
padded p (suc max) (x ∷ xs) (y ∷ ys) n fit few enough =
    let less : suc max - suc (length xs) ≡ max - length xs = omega arith in
    ap (λ k. all_fit p (x ∷ (xs ++ replicate k is.Top)) (y ∷ take max (ys ++ replicate n is.Top))) less
    ∙ list_fits p x y (xs ++ replicate (max - length xs) is.Top) (take max (ys ++ replicate n is.Top)) (both_first (fits p x y) (all_fit p xs ys) fit)
    (padded p max xs ys n (both_second (fits p x y) (all_fit p xs ys) fit) (omega (arith, few)) (omega (arith, enough)))
padded p max _ _ n fit few enough = absurd cc
