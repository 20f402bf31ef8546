use Rattle.std.proofs.Common.{◌<◌, ◌∙◌, arith}
use Rattle.vx_group_states.proofs.SettleLaws.{lifting_cond}
use Rattle.vx_value.specs.Slot.{slot_cmp}
use Rattle.vx_arrays.proofs.Operands.{operand_is_cond, operand_scope, operand_value}
use Rattle.vx_arrays.proofs.Stores.{kept_there}
use Rattle.vx_arrays.proofs.storing.values_kept.Goals as goal

pub map-requires-clause-valid : goal.map-requires-clause-valid
map-requires-clause-valid g c =
    let one : 0 < c.len.result = rw (c.len.ensures, c.top_frame.ensures) c.requires.operand in
    operand_is_cond (g.S.Space.sets c.args.space.now) c.args.group.now c.top_frame.result.now c.requires.group c.top_frame.ensures c.len.result _ 0 c.get-value.result.now c.len.ensures c.get-value.ensures (omega arith)

pub returns-clause-cond : goal.returns-clause-cond
returns-clause-cond g c = lifting_cond slot_cmp _ _ _ c.in_ok-values.values c.in_ok-values.ensures.ok

pub returns-clause-scope : goal.returns-clause-scope
returns-clause-scope g c =
    let one : 0 < c.len.result = rw (c.len.ensures, c.top_frame.ensures) c.requires.operand in
    c.in_ok-values.ensures.scope
    ∙ operand_scope (g.S.Space.sets c.args.space.now) c.args.group.now c.top_frame.result.now c.requires.group c.top_frame.ensures c.len.result _ 0 c.get-value.result.now c.len.ensures c.get-value.ensures (omega arith)

pub returns-clause-at : goal.returns-clause-at
returns-clause-at g c =
    let one : 0 < c.len.result = rw (c.len.ensures, c.top_frame.ensures) c.requires.operand in
    let at = operand_value (g.S.Space.sets c.args.space.now) c.args.group.now c.top_frame.result.now c.requires.group c.top_frame.ensures c.len.result _ 0 c.get-value.result.now c.len.ensures c.get-value.ensures (omega arith) in
    λ d t. kept_there c.args.element (g.S.Space.sets c.args.space.now) (g.S.Space.sets c.map.new.space) c.get-value.result.now c.in_ok-values.values _ d _ (λ s r h. h) (at d t) c.in_ok-values.ensures.ok
