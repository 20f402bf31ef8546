use Rattle.vx_cover.specs.Covers.{has_this_end}
use Rattle.vx_cover.specs.Targets.{AreFirst}
use Rattle.vx_cover.proofs.target.put_ends.Given as goal

abbrev pub invariant-loop-place : goal.invariant-loop-place
invariant-loop-place g l = AreFirst (g.S.Space.sets l.space) (has_this_end l.report) l.place l.targets.items
