use Rattle.std.proofs.Common.{◌-◌, ◌∙◌, arith, refl}
use Rattle.vx_cond.proofs.RowSteps.{IsRow-get}
use Rattle.vx_group_states.proofs.SettleLaws.{lifting_cond}
use Rattle.vx_value.specs.Slot.{slot_cmp}
use Rattle.vx_natives.specs.Arguments.{receiver}
use Rattle.vx_natives.specs.CallOrder.{call_cmp}
use Rattle.vx_natives.specs.Calls.{call_given}
use Rattle.vx_natives.proofs.Arguing.{receiver_at}
use Rattle.vx_natives.proofs.calls.receiver_given.Goals as goal

pub map-requires-clause-valid : goal.map-requires-clause-valid
map-requires-clause-valid g c = (IsRow-get slot_cmp _ c.args.stack.now _ c.get.result.now c.requires.row c.get.ensures).0

pub returns-clause-cond : goal.returns-clause-cond
returns-clause-cond g c = lifting_cond call_cmp _ _ _ c.in_ok-made.made c.in_ok-made.ensures.ok

pub returns-clause-scope : goal.returns-clause-scope
returns-clause-scope g c = c.in_ok-made.ensures.scope ∙ (IsRow-get slot_cmp _ c.args.stack.now _ c.get.result.now c.requires.row c.get.ensures).1

pub returns-clause-at : goal.returns-clause-at
returns-clause-at g c =
    let p = c.args.program.now in
    let heap = c.args.heap.now in
    let class = c.args.class.0 in
    receiver_at p heap class c.args.count (c.len.result - c.args.count - 1) _ _ c.args.stack.now c.get.result.now _ (λ s. call_given (receiver p heap class s)) c.in_ok-made.made (λ s k h. h) (λ s rest. refl) c.requires.row c.get.ensures (omega (arith, c.requires.enough, c.len.ensures)) c.in_ok-made.ensures.ok
