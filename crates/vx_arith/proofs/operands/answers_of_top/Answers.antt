use Rattle.std.proofs.Common.{◌-◌, ◌∙◌, arith}
use Rattle.vx_cond.proofs.RowSteps.{IsRow-get}
use Rattle.vx_group_states.proofs.SettleLaws.{lifting_cond}
use Rattle.vx_group_states.specs.Answers.{answer_cmp}
use Rattle.vx_value.specs.Slot.{slot_cmp}
use Rattle.vx_arith.proofs.Ends.{top_answers}
use Rattle.vx_arith.proofs.operands.answers_of_top.Goals as goal

pub map-requires-clause-valid : goal.map-requires-clause-valid
map-requires-clause-valid g c = (IsRow-get slot_cmp _ c.args.stack.now _ c.get-top.result.now c.requires.row c.get-top.ensures).0

pub returns-clause-cond : goal.returns-clause-cond
returns-clause-cond g c = lifting_cond answer_cmp _ _ _ c.in_ok-answers.answers c.in_ok-answers.ensures.ok

pub returns-clause-scope : goal.returns-clause-scope
returns-clause-scope g c = c.in_ok-answers.ensures.scope ∙ (IsRow-get slot_cmp _ c.args.stack.now _ c.get-top.result.now c.requires.row c.get-top.ensures).1

pub returns-clause-at : goal.returns-clause-at
returns-clause-at g c = top_answers (g.S.Space.sets c.args.space.now) (g.S.Space.sets c.map.new.space) c.args.stack.now (c.len.result - 1) c.get-top.result.now c.args.spot.now c.args.operation _ c.in_ok-answers.answers (λ s a h. h) c.requires.row c.get-top.ensures (omega arith) c.in_ok-answers.ensures.ok
