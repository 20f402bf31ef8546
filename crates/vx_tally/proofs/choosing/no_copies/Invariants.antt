use Rattle.std.proofs.Common.{◌≡◌, ℕ}
use Rattle.std.specs.Prelude.{Some, slice_get}
use Rattle.vx_tally.proofs.choosing.no_copies.Given as goal

abbrev pub invariant-loop : goal.invariant-loop
invariant-loop l = (k copy : ℕ) → slice_get l.copies.items k ≡ Some (Some copy) → ⊥
