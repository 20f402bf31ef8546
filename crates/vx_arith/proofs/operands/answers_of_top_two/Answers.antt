use Rattle.std.proofs.Common.{◌≡◌, ◌-◌, ◌∙◌, arith, sym, suc, ap}
use Rattle.std.specs.Prelude.{slice_get}
use Rattle.vx_cond.proofs.RowSteps.{IsRow-get}
use Rattle.vx_group_states.specs.Answers.{answer_cmp}
use Rattle.vx_value.specs.Slot.{slot_cmp}
use Rattle.vx_families.proofs.Tops.{lifting2_cond}
use Rattle.vx_arith.proofs.Ends.{top_two_answers}
use Rattle.vx_arith.proofs.operands.answers_of_top_two.Goals as goal

pub zip-requires-clause-first : goal.zip-requires-clause-first
zip-requires-clause-first g c = (IsRow-get slot_cmp _ c.args.stack.now _ c.get-top.result.now c.requires.row c.get-top.ensures).0

pub zip-requires-clause-second : goal.zip-requires-clause-second
zip-requires-clause-second g c = (IsRow-get slot_cmp _ c.args.stack.now _ c.get-below.result.now c.requires.row c.get-below.ensures).0

pub zip-requires-clause-scopes : goal.zip-requires-clause-scopes
zip-requires-clause-scopes g c = (IsRow-get slot_cmp _ c.args.stack.now _ c.get-top.result.now c.requires.row c.get-top.ensures).1 ∙ sym (IsRow-get slot_cmp _ c.args.stack.now _ c.get-below.result.now c.requires.row c.get-below.ensures).1

pub returns-clause-cond : goal.returns-clause-cond
returns-clause-cond g c = lifting2_cond answer_cmp _ _ _ _ c.in_ok-answers.answers c.in_ok-answers.ensures.ok

pub returns-clause-scope : goal.returns-clause-scope
returns-clause-scope g c = c.in_ok-answers.ensures.scope ∙ (IsRow-get slot_cmp _ c.args.stack.now _ c.get-top.result.now c.requires.row c.get-top.ensures).1

pub returns-clause-at : goal.returns-clause-at
returns-clause-at g c =
    let n = c.len-count.result - 2 in
    let above : c.len-count.result - 1 ≡ suc n = omega arith in
    top_two_answers (g.S.Space.sets c.args.space.now) (g.S.Space.sets c.zip.new.space) c.args.stack.now n c.get-below.result.now c.get-top.result.now c.args.spot.now c.args.by_zero c.args.operation _ c.in_ok-answers.answers (λ s r a h. h) c.requires.row c.get-below.ensures (c.get-top.ensures ∙ ap (slice_get c.args.stack.now.conds) above) (omega arith) c.in_ok-answers.ensures.ok
