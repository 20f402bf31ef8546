use Rattle.std.proofs.Common.{length}
use Rattle.vx_cover.proofs.Blocked.{IsBlocking}
use Rattle.vx_cover.proofs.blocks.blocks_of.Given as goal

abbrev pub invariant-loop-rest : goal.invariant-loop-rest
invariant-loop-rest g l = IsBlocking (g.S.Space.sets l.fn.space) (g.S.Space.sets l.space) l.fn.targets l.rest l.blocks.items

abbrev pub decreases-loop-rest : goal.decreases-loop-rest
decreases-loop-rest g l = length l.rest
