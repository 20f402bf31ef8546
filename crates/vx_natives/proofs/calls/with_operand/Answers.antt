use Rattle.std.proofs.Common.{◌∙◌, ap, sym}
use Rattle.std.specs.Prelude.{option_map}
use Rattle.vx_cond.specs.Slots.{slot_at}
use Rattle.vx_families.proofs.Tops.{lifting2_cond, made_of_two, value_there}
use Rattle.vx_java.specs.Ids.{as_class}
use Rattle.vx_link.specs.ClassNames.{class_of_type}
use Rattle.vx_value.specs.Slot.{slot_cmp}
use Rattle.vx_value.specs.declared.slot.Slot.TheVariants.{Top}
use Rattle.vx_natives.specs.Arguments.{argument}
use Rattle.vx_natives.specs.CallOrder.{call_cmp}
use Rattle.vx_natives.specs.Calls.{call_at, with_argument}
use Rattle.vx_natives.specs.declared.call.Call.TheVariants.{Illegal}
use Rattle.vx_natives.proofs.calls.with_operand.Goals as goal

pub returns-clause-cond : goal.returns-clause-cond
returns-clause-cond g c = lifting2_cond call_cmp _ _ _ _ c.in_ok-made.made c.in_ok-made.ensures.ok

pub returns-clause-at : goal.returns-clause-at
returns-clause-at g c = λ d t.
    let s0 = g.S.Space.sets c.args.space.now in
    let p = c.args.program.now in
    let heap = c.args.heap.now in
    let item = c.args.java_type in
    made_of_two Illegal call_cmp s0 _ _ (λ call slot. with_argument call (argument p heap (option_map as_class (class_of_type p c.args.descriptor.now item)) item slot)) c.args.calls.now c.args.operand.now c.in_ok-made.made d (call_at s0 c.args.calls.now d) (slot_at s0 c.args.operand.now d)
    (λ call slot a h. h ∙ ap (λ w. with_argument call (argument p heap w item slot)) c.class_of_type-wanted.ensures)
    (value_there Illegal call_cmp s0 c.args.calls.now d c.requires.calls t)
    (value_there Top slot_cmp s0 c.args.operand.now d c.requires.operand (ap (λ i. s0.test i d) (sym c.requires.scopes) ∙ t))
    c.in_ok-made.ensures.ok
