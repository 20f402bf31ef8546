use Rattle.std.proofs.Common.{◌∙◌, ◌-◌, ◌∷◌, sym}
use Rattle.vx_java.proofs.Silence.{mark_kept}
use Rattle.vx_java.proofs.Walks.{given_at, passed_at}
use Rattle.vx_link.specs.Hierarchy.{interfaces_within}
use Rattle.vx_java.proofs.questions.+asking.Goals as goal

pub ask_from-returns-clause-silent : goal.ask_from-returns-clause-silent
ask_from-returns-clause-silent g t c =
    let p = c.args.program.now in
    let f = g.Q.Question.answer c.args.question.now p in
    let kept = mark_kept f p c.args.class c.ask_within-answer.new.silent c.ask_within-answer.ensures.silent c.in_default.ensures in
    rw c.mark.ensures kept

pub ask_within-returns-in-Some-clause-answer : goal.ask_within-returns-in-Some-clause-answer
ask_within-returns-in-Some-clause-answer g t c =
    let p = c.args.program.now in
    given_at (g.Q.Question.answer c.args.question.now p) (λ i. i ∷ interfaces_within p (c.args.depth - 1) i) c.interfaces_of-interface-items.result.now c.loop-interface.interface-index _ _
    c.loop-interface-test.true c.in-Some.ensures.answer
    ∙ sym c.loop-interface.invariant.0

pub ask_within-loop-interface-preserved : goal.ask_within-loop-interface-preserved
ask_within-loop-interface-preserved g t c =
    let p = c.args.program.now in (
      c.loop-interface.invariant.0
          ∙ passed_at (g.Q.Question.answer c.args.question.now p) (λ i. i ∷ interfaces_within p (c.args.depth - 1) i) c.interfaces_of-interface-items.result.now c.loop-interface.interface-index _
          c.loop-interface-test.true c.in_default.ensures.answer,
      c.in_default.ensures.silent,
    )
