use Rattle.std.proofs.Common.{◌-◌, ◌∙◌, arith, length}
use Rattle.std.proofs.lemmas.Result.{IfOk-weaker}
use Rattle.vx_families.specs.Sorts.{narrowed_slot}
use Rattle.vx_group_states.proofs.SettleLaws.{lifting_cond}
use Rattle.vx_java.specs.FirstObjects.{narrow_of_type}
use Rattle.vx_value.specs.Slot.{slot_cmp}
use Rattle.vx_value.specs.declared.slot.Slot.TheVariants.{Top}
use Rattle.vx_families.proofs.Operands.{one_made, operand_cond, operand_scope}
use Rattle.vx_objects.proofs.fields.values_written.Goals as goal

pub map-requires-clause-valid : goal.map-requires-clause-valid
map-requires-clause-valid g c = operand_cond _ c.args.group.now _ c.top_operand.result.now c.requires.group c.top_operand.ensures

pub returns-clause-cond : goal.returns-clause-cond
returns-clause-cond g c =
    IfOk-weaker c.map.result _ _ (λ r' h'. lifting_cond slot_cmp _ _ _ r' h')
    c.map.ensures.ok

pub returns-clause-scope : goal.returns-clause-scope
returns-clause-scope g c =
    IfOk-weaker c.map.result _ _ (λ r' h'. h' ∙ operand_scope _ c.args.group.now _ c.top_operand.result.now c.requires.group c.top_operand.ensures)
    c.map.ensures.scope

pub returns-clause-at : goal.returns-clause-at
returns-clause-at g c =
    IfOk-weaker c.map.result _ _ (λ r' h'. one_made Top slot_cmp (g.S.Space.sets c.args.space.now) _ c.args.group.now (length c.args.group.now.top.stack.conds - 1) 0 c.top_operand.result.now (narrowed_slot (narrow_of_type c.args.field_type)) _ r' (λ s a h. h) c.requires.group c.top_operand.ensures (omega (arith, c.requires.operand)) h')
    c.map.ensures.ok
