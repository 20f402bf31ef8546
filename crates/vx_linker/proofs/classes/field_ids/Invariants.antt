use Rattle.std.proofs.Common.{◌≡◌}
use Rattle.vx_link.specs.Linked.{field_ids}
use Rattle.vx_linker.proofs.classes.field_ids.Given as goal

abbrev pub invariant-loop-place : goal.invariant-loop-place
invariant-loop-place l = l.ids.items ≡ field_ids l.first l.place
