use Rattle.std.proofs.Common.{◌<◌, ap, length, sym, ◌∙◌}
use Rattle.vx_desc.specs.Descriptors.{field_type}
use Rattle.vx_java.specs.FirstObjects.{default_of_field}
use Rattle.vx_link.specs.Parts.{class_at}
use Rattle.vx_plain_tables.proofs.CellLaws.{slot_put, static_passed}
use Rattle.vx_plain_tables.proofs.cells.own_slots_out.Goals.{then-not-is_static_field+in_ok-push, else-not-is_static_field}
use Rattle.vx_plain_tables.proofs.cells.own_slots_out.Goals as goal

pub loop-field-preserved : goal.loop-field-preserved
loop-field-preserved c =
    let p = c.args.program.now in
    let fields = (class_at p c.args.class.0).fields in
    let place = c.loop-field.field-index in
    let there : place < length fields = rw (← c.fields_of-field-items.ensures) c.loop-field-test.true in
    let static = rw c.fields_of-field-items.ensures at c.is_static_field.ensures in
    elim c.if-not-is_static_field.branch [
      | then-not-is_static_field+in_ok-push w ↦
          rw (w.slots-is, w.in_ok-push.ensures.items)
          (c.loop-field.invariant ∙ slot_put p fields place _ c.loop-field.slots.items w.default_of.result there (sym static ∙ w.if-not-is_static_field.true) (w.default_of.ensures.value ∙ ap (λ bytes. default_of_field (field_type bytes)) (rw c.fields_of-field-items.ensures at w.descriptor_of_field.ensures)))
      | else-not-is_static_field w ↦ rw w.slots-is (c.loop-field.invariant ∙ static_passed p fields place _ c.loop-field.slots.items there (sym static ∙ w.if-not-is_static_field.false))
    ]
