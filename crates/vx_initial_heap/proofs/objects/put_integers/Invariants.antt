use Rattle.std.proofs.Common.{◌≡◌, ◌++◌}
use Rattle.std.specs.Prelude.{negsuc}
use Rattle.vx_initial_heap.specs.Objects.{int_objects}
use Rattle.vx_initial_heap.proofs.objects.put_integers.Given as goal

abbrev pub invariant-loop-place : goal.invariant-loop-place
invariant-loop-place l = l.objects.items ≡ l.initial.objects.items ++ int_objects l.class (negsuc 127) l.place
