use Rattle.std.proofs.Common.{◌+◌, ◌-◌, length}
use Rattle.vx_agree.proofs.Merging.{IsMerging}
use Rattle.vx_agree.proofs.ends.same_end.Given as goal

abbrev pub invariant-loop-place : goal.invariant-loop-place
invariant-loop-place g l = IsMerging (g.S.Space.sets l.fn.space) (g.S.Space.sets l.space) l.one l.other l.place l.other_place l.endings

abbrev pub decreases-loop-place : goal.decreases-loop-place
decreases-loop-place g l = (length l.one.ends - l.place) + (length l.other.ends - l.other_place)
