use Rattle.std.proofs.Common.{◌≡◌, ◌++◌, take}
use Rattle.std.specs.List.{flat_map}
use Rattle.vx_heap.specs.Heap.{object_ids}
use Rattle.vx_heap.proofs.heap.objects_out.Given as goal

abbrev pub invariant-loop-object : goal.invariant-loop-object
invariant-loop-object g l = l.ids.items ≡ l.initial.ids.items ++ flat_map object_ids (take l.object-index l.fn.objects)
