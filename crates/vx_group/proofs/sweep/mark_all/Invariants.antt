use Rattle.std.specs.HashSet.{contains}
use Rattle.std.specs.Prelude.{nat_eq}
use Rattle.vx_group.proofs.SweepLaws.{AreMarkedSome}
use Rattle.vx_group.proofs.sweep.mark_all.Given as goal

abbrev pub invariant-loop-group : goal.invariant-loop-group
invariant-loop-group g l = AreMarkedSome l.callers l.groups l.group-index (contains nat_eq l.marks)
