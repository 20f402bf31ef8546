use Rattle.std.specs.Prelude.{take}
use Rattle.vx_group.specs.Group.{key_of}
use Rattle.vx_sched.specs.Groups.{IsFresh}
use Rattle.vx_sched.proofs.placing.place_of.Given as goal

abbrev pub invariant-loop-place : goal.invariant-loop-place
invariant-loop-place g l = IsFresh (key_of l.group) (take l.place l.groups)
