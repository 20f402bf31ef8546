use Rattle.std.proofs.Common.{◌∙◌, ap, sym, ◌&&◌}
use Rattle.std.specs.Ordering.{bool_cmp}
use Rattle.vx_ready.proofs.Tops.{IsSet-where, top_is, top_is_cond}
use Rattle.vx_group.specs.Group.{path_of}
use Rattle.vx_group_states.proofs.SettleLaws.{lifting_cond}
use Rattle.vx_objects.specs.Answers.{is_null}
use Rattle.vx_objects.proofs.casting.where_null.Goals as goal

pub map-requires-clause-valid : goal.map-requires-clause-valid
map-requires-clause-valid g c = top_is_cond _ c.args.group.now c.top_operand.result.now c.requires.group c.requires.operand c.top_operand.ensures

pub where_yes-requires : goal.where_yes-requires
where_yes-requires g c = lifting_cond bool_cmp _ _ _ c.in_ok-nulls.nulls c.in_ok-nulls.ensures.ok

pub returns-clause-set : goal.returns-clause-set
returns-clause-set g c =
    let s0 = g.S.Space.sets c.args.space.now in
    let group = c.args.group.now in
    let set = IsSet-where s0 group c.top_operand.result.now c.requires.group c.requires.operand c.top_operand.ensures _ is_null c.in_ok-nulls.nulls c.where_yes.result (λ s b h. h) c.in_ok-nulls.ensures.ok c.where_yes.ensures in
    record { known = set.known; test = λ d. set.test d ∙ ap (λ slot. s0.test (path_of group) d && is_null slot) (sym (top_is s0 group c.top_operand.result.now c.requires.group c.requires.operand c.top_operand.ensures d)) }
