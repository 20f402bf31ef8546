use Rattle.std.proofs.Common.{drop, ◌*◌, ◌++◌, ◌+◌, ◌≡◌}
use Rattle.vx_gen.specs.Parts.{field_list}
use Rattle.vx_gen.proofs.classes.main_fields.Given as goal

abbrev pub invariant-loop-name : goal.invariant-loop-name
invariant-loop-name l = (l.fields.items ++ field_list l.index (drop l._name-index l.names) ≡ field_list 5 l.names) × (l.index ≡ 5 + 2 * l._name-index)
