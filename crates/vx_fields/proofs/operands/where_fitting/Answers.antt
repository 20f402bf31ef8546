use Rattle.std.specs.Ordering.{bool_cmp}
use Rattle.vx_java.specs.Checks.{sort_of}
use Rattle.vx_group_states.proofs.SettleLaws.{lifting_cond}
use Rattle.vx_ready.proofs.Tops.{IsSet-fitting, top_is_cond}
use Rattle.vx_fields.proofs.operands.where_fitting.Goals as goal

pub map-requires-clause-valid : goal.map-requires-clause-valid
map-requires-clause-valid g c = top_is_cond _ c.args.group.now c.top_operand.result.now c.requires.group c.requires.operand c.top_operand.ensures

pub where_yes-requires : goal.where_yes-requires
where_yes-requires g c = lifting_cond bool_cmp _ _ _ c.in_ok-answers.answers c.in_ok-answers.ensures.ok

pub returns-clause-set : goal.returns-clause-set
returns-clause-set g c = IsSet-fitting (g.S.Space.sets c.args.space.now) c.args.group.now c.top_operand.result.now c.requires.group c.requires.operand c.top_operand.ensures _ (sort_of c.args.field_type) c.in_ok-answers.answers c.where_yes.result c.in_ok-answers.ensures.extends (λ s b h. h) c.in_ok-answers.ensures.ok c.where_yes.ensures
