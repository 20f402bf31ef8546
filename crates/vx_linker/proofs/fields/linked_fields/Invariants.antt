use Rattle.std.proofs.Common.{◌≡◌, ◌++◌, drop, map}
use Rattle.vx_link.specs.Linked.{linked_field}
use Rattle.vx_linker.specs.Texts.{AreTexts}
use Rattle.vx_linker.proofs.fields.linked_fields.Given as goal

abbrev pub invariant-loop-field : goal.invariant-loop-field
invariant-loop-field l =
    AreTexts l.class.pool l.texts.known.items
    × (l.linked.items ++ map (linked_field l.options l.number.0 l.class) (drop l.field-index l.fields) ≡ map (linked_field l.options l.number.0 l.class) l.fields)
