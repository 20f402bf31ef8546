use Rattle.std.proofs.Common.{length, ◌≡◌}
use Rattle.vx_reached.proofs.search.reached.Given as goal

-- so many marks were made
abbrev pub invariant-loop-number : goal.invariant-loop-number
invariant-loop-number l = length l.marks.items ≡ l.number
