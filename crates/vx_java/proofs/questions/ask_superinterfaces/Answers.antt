use Rattle.std.proofs.Common.{◌∙◌, refl, sym}
use Rattle.vx_java.proofs.Silence.{none_marked}
use Rattle.vx_java.proofs.Walks.{given_in_chain, passed_in_chain}
use Rattle.vx_link.specs.Hierarchy.{interfaces_below}
use Rattle.vx_java.proofs.questions.ask_superinterfaces.Goals as goal

pub returns-in-Some-ask_below : goal.returns-in-Some-ask_below
returns-in-Some-ask_below g c =
    let p = c.args.program.now in
    given_in_chain (g.Q.Question.answer c.args.question.now p) (interfaces_below p) p c.loop-left.left c.loop-left.next c.in-Some.class _
    c.in-Some.is c.loop-left-test.true c.in-Some-ask_below.ensures.answer
    ∙ sym c.loop-left.invariant.0

pub loop-left-preserved : goal.loop-left-preserved
loop-left-preserved g c =
    let p = c.args.program.now in (
      c.loop-left.invariant.0
          ∙ passed_in_chain (g.Q.Question.answer c.args.question.now p) (interfaces_below p) p c.loop-left.left c.loop-left.next c.in-Some.class c.superclass_of-next.result
          c.in-Some.is c.loop-left-test.true c.superclass_of-next.ensures c.in_default-ask_below.ensures.answer,
      c.in_default-ask_below.ensures.silent,
    )

pub loop-left-init : goal.loop-left-init
loop-left-init g c =
    let p = c.args.program.now in (
      rw c.len-left.ensures refl,
      none_marked (g.Q.Question.answer c.args.question.now p) p c.no_marks-silent.result c.no_marks-silent.ensures,
    )
