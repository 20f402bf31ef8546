use Rattle.std.proofs.Common.{take}
use Rattle.vx_heap.specs.Lifted.{AreLifted}
use Rattle.vx_heap.proofs.lifted.lifted_objects.Given as goal

abbrev pub invariant-loop-object : goal.invariant-loop-object
invariant-loop-object g l = AreLifted l.scope (take l.object-index l.objects) l.made.items
