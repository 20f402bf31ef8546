use Rattle.std.proofs.Common.{◌∙◌}
use Rattle.std.proofs.lemmas.Result.{IfOk-weaker}
use Rattle.vx_cond.proofs.CondLaws.{IsCond-of}
use Rattle.vx_cond.proofs.SideLaws.{IsRow-scope_known}
use Rattle.vx_group_states.specs.Answers.{answer_cmp}
use Rattle.vx_value.specs.Slot.{slot_cmp}
use Rattle.vx_arrays.proofs.DividedGrids.{AreGridsMade-scope}
use Rattle.vx_arrays.proofs.grids.answers_of.Goals as goal

pub answers_inside-requires-clause-known : goal.answers_inside-requires-clause-known
answers_inside-requires-clause-known g c = rw c.scope.ensures (IsRow-scope_known slot_cmp _ c.args.stack.now c.requires.stack)

pub answers_inside-requires-clause-answers : goal.answers_inside-requires-clause-answers
answers_inside-requires-clause-answers g c = IsCond-of answer_cmp _ _ c.in_ok-none.none c.in_ok-none.ensures.ok

pub returns-clause-ok : goal.returns-clause-ok
returns-clause-ok g c =
    IfOk-weaker c.answers_inside.result _ _ (λ r' h'. AreGridsMade-scope c.args.program.now c.args.class.0 (g.S.Space.sets c.args.space.now) (g.S.Space.sets c.answers_inside.new.space) c.args.heap.now c.answers_inside.new.heap c.args.stack.now c.args.dimensions c.in_ok-none.none r' (g.met.S.Space.lawful c.args.space.now) (g.met.S.Space.lawful c.answers_inside.new.space) c.answers_inside.ensures.extends c.args.stack.now.scope (IsRow-scope_known slot_cmp _ c.args.stack.now c.requires.stack) (c.in_ok-none.ensures.scope ∙ c.never.ensures) (rw c.scope.ensures at h'))
    c.answers_inside.ensures.ok
