use Rattle.std.proofs.Common.{◌<◌, length, sym, ◌∙◌}
use Rattle.vx_link.specs.Parts.{class_at}
use Rattle.vx_heap.proofs.Beginnings.{appending_more, appending_static}
use Rattle.vx_heap.proofs.defaults.own_slots_out.Goals.{then-not-is_static_field+in_ok-push, else-not-is_static_field}
use Rattle.vx_heap.proofs.defaults.own_slots_out.Goals as goal

pub loop-field-preserved : goal.loop-field-preserved
loop-field-preserved c =
    let p = c.args.program.now in
    let fields = (class_at p c.args.class.0).fields in
    let place = c.loop-field.field-index in
    let there : place < length fields = rw (← c.fields_of-field-items.ensures) c.loop-field-test.true in
    let static = rw c.fields_of-field-items.ensures at c.is_static_field.ensures in
    elim c.if-not-is_static_field.branch [
      | then-not-is_static_field+in_ok-push w ↦
          rw (w.slots-is, w.in_ok-push.ensures.items)
          (appending_more c.args.empty p c.args.slots.now.items fields place _ c.loop-field.slots.items w.started.result there (sym static ∙ w.if-not-is_static_field.true) (rw c.fields_of-field-items.ensures at w.started.ensures) c.loop-field.invariant)
      | else-not-is_static_field w ↦ rw w.slots-is (appending_static c.args.empty p c.args.slots.now.items fields place _ c.loop-field.slots.items there (sym static ∙ w.if-not-is_static_field.false) c.loop-field.invariant)
    ]
