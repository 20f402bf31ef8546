use Rattle.std.proofs.Common.{◌≡◌, map, take}
use Rattle.vx_initial_heap.specs.First.{object_in}
use Rattle.vx_plain.specs.Views.{object_of}
use Rattle.vx_plain_start.proofs.first.objects_of.Given as goal

abbrev pub invariant-loop-first : goal.invariant-loop-first
invariant-loop-first l = map object_of l.objects.items ≡ map (object_in l.texts.texts) (take l.first-index l.firsts)
