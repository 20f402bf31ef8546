use Rattle.std.proofs.Common.{◌≡◌}
use Rattle.vx_link.specs.Linked.{method_ids}
use Rattle.vx_linker.proofs.classes.method_ids.Given as goal

abbrev pub invariant-loop-place : goal.invariant-loop-place
invariant-loop-place l = l.ids.items ≡ method_ids l.first l.place
