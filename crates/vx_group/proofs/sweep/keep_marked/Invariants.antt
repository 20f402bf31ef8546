use Rattle.std.specs.HashSet.{contains}
use Rattle.std.specs.Prelude.{nat_eq}
use Rattle.vx_group.proofs.SweepLaws.{AreDropped}
use Rattle.vx_group.proofs.sweep.keep_marked.Given as goal

abbrev pub invariant-loop-number : goal.invariant-loop-number
invariant-loop-number g l = AreDropped (contains nat_eq l.marks) l.fn.nodes l.nodes l.number
