use Rattle.std.specs.Prelude.{◌≡◌, map, take}
use Rattle.vx_group.specs.Group.{key_of}
use Rattle.vx_sched.proofs.placing.keys_of.Given as goal

abbrev pub invariant-loop-group : goal.invariant-loop-group
invariant-loop-group g l = l.keys.items ≡ map key_of (take l.group-index l.groups)
