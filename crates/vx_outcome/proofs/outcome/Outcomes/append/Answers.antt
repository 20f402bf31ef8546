use Rattle.std.proofs.Common.{◌≡◌, ℕ, Bool, true, List, [], ◌∷◌, ◌++◌, length, refl, sym, ◌∙◌, ap, arith}
use Rattle.std.specs.Prelude.{◌==◌}
use Rattle.std.proofs.lemmas.Bool.Decides.{nat_tests}
use Rattle.vx_outcome.proofs.outcome.Outcomes.append.Goals as goal

is_zero : (n : ℕ) → (n == 0) ≡ true → n ≡ 0
is_zero n e = grind (arith, nat_tests)

nothing_before : {X : Type 0} (xs ys : List X) → length xs ≡ 0 → ys ≡ xs ++ ys
nothing_before [] ys e = refl
nothing_before (x ∷ xs) ys e = absurd (omega (arith, e))

pub returns-then-is_empty-clause-ok : goal.returns-then-is_empty-clause-ok
returns-then-is_empty-clause-ok g c =
    let none : length c.args.self.now.items.items ≡ 0 = ap length (sym c.as_slice.ensures.value) ∙ is_zero (length c.as_slice.result.now) (sym c.is_empty.ensures ∙ c.if-is_empty.true) in
    nothing_before c.args.self.now.items.items c.args.other.items.items none
