use Rattle.vx_cond.proofs.CondLaws.{IsCond-of}
use Rattle.vx_java.specs.FirstObjects.{narrow_of_type}
use Rattle.vx_group_states.proofs.SettleLaws.{lifting_cond}
use Rattle.vx_value.specs.Slot.{slot_cmp}
use Rattle.vx_ready.proofs.Tops.{stored_at, stored_scope, top_is_cond}
use Rattle.vx_fields.proofs.operands.narrowed_top.Goals as goal

pub restrict-requires-clause-valid : goal.restrict-requires-clause-valid
restrict-requires-clause-valid g c = top_is_cond _ c.args.group.now c.top_operand.result.now c.requires.group c.requires.operand c.top_operand.ensures

pub map-requires-clause-valid : goal.map-requires-clause-valid
map-requires-clause-valid g c = IsCond-of slot_cmp _ _ c.in_ok-inside.inside c.in_ok-inside.ensures.ok

pub returns-clause-cond : goal.returns-clause-cond
returns-clause-cond g c = lifting_cond slot_cmp _ _ _ c.in_ok-values.values c.in_ok-values.ensures.ok

pub returns-clause-scope : goal.returns-clause-scope
returns-clause-scope g c = stored_scope (g.S.Space.sets c.args.space.now) c.args.group.now c.top_operand.result.now c.requires.group c.requires.operand c.top_operand.ensures _ _ (narrow_of_type c.args.field_type) c.in_ok-inside.inside c.in_ok-values.values c.args.path c.requires.inside c.requires.known c.in_ok-inside.ensures.extends c.in_ok-inside.ensures.ok c.in_ok-values.ensures.ok (g.met.S.Space.lawful c.restrict.new.space) c.in_ok-values.ensures.scope

pub returns-clause-at : goal.returns-clause-at
returns-clause-at g c = stored_at (g.S.Space.sets c.args.space.now) c.args.group.now c.top_operand.result.now c.requires.group c.requires.operand c.top_operand.ensures _ _ (narrow_of_type c.args.field_type) c.in_ok-inside.inside c.in_ok-values.values c.args.path c.requires.inside c.requires.known c.in_ok-inside.ensures.extends c.in_ok-inside.ensures.ok c.in_ok-values.ensures.ok (λ a s h. h)
