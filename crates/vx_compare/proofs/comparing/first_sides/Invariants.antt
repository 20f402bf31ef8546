use Rattle.std.proofs.Common.{◌≡◌, ◌++◌, drop, length}
use Rattle.vx_compare.specs.Ways.{ids_from}
use Rattle.vx_compare.proofs.comparing.first_sides.Given as goal

abbrev pub invariant-loop-set : goal.invariant-loop-set
invariant-loop-set g l = l.sides.items ++ ids_from (length l.sides.items) (drop l.set-index l.fn.firsts) ≡ ids_from 0 l.fn.firsts
