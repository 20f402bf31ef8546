use Rattle.std.proofs.Common.{◌≡◌, map, take}
use Rattle.vx_compare.specs.Wide.{set_at}
use Rattle.vx_compare.proofs.wide.sets_at.Given as goal

abbrev pub invariant-loop-number : goal.invariant-loop-number
invariant-loop-number g l = l.found.items ≡ map (set_at (g.S.Space.sets l.space) l.sets) (take l.number-index l.fn.numbers)
