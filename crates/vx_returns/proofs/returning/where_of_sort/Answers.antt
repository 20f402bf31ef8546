use Rattle.std.proofs.Common.{◌∙◌, ap, sym}
use Rattle.std.specs.Ordering.{bool_cmp}
use Rattle.std.specs.Prelude.{◌&&◌}
use Rattle.vx_families.specs.Sorts.{slot_is_of}
use Rattle.vx_ready.proofs.Tops.{IsSet-where, top_is, top_is_cond}
use Rattle.vx_group.specs.Group.{path_of}
use Rattle.vx_group_states.proofs.SettleLaws.{lifting_cond}
use Rattle.vx_returns.proofs.returning.where_of_sort.Goals as goal

pub map-requires-clause-valid : goal.map-requires-clause-valid
map-requires-clause-valid g c = top_is_cond _ c.args.group.now c.top_operand.result.now c.requires.group c.requires.operand c.top_operand.ensures

pub where_yes-requires : goal.where_yes-requires
where_yes-requires g c = lifting_cond bool_cmp _ _ _ c.in_ok-answers.answers c.in_ok-answers.ensures.ok

pub returns-clause-set : goal.returns-clause-set
returns-clause-set g c =
    let start = g.S.Space.sets c.args.space.now in
    let group = c.args.group.now in
    let asked = IsSet-where start group c.top_operand.result.now c.requires.group c.requires.operand c.top_operand.ensures _ (slot_is_of c.args.sort) c.in_ok-answers.answers c.where_yes.result (λ s b h. h) c.in_ok-answers.ensures.ok c.where_yes.ensures in
    record {
      known = asked.known;
      test = λ d. asked.test d ∙ ap (λ slot. start.test (path_of group) d && slot_is_of c.args.sort slot) (sym (top_is start group c.top_operand.result.now c.requires.group c.requires.operand c.top_operand.ensures d));
    }
