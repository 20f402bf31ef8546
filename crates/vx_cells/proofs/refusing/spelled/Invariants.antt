use Rattle.std.proofs.Common.{◌≡◌, take}
use Rattle.vx_cells.proofs.refusing.spelled.Given as goal

abbrev pub invariant-loop-digit : goal.invariant-loop-digit
invariant-loop-digit l = l.units.items ≡ take l.digit-index l.digits
