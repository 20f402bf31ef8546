use Rattle.std.proofs.Common.{◌∙◌, ap, if◌then◌else◌}
use Rattle.vx_cond.proofs.CondLaws.{IsCond-extends, IsCond-of}
use Rattle.vx_group_states.specs.Answers.{answer_cmp}
use Rattle.vx_group_states.specs.declared.answer.Answer.TheVariants.{Pass}
use Rattle.vx_space.proofs.Spaces.{Extends-trans}
use Rattle.vx_effects.proofs.CopyRows.{answers-at, answers-disjoint, answers-scope, store_raised}
use Rattle.vx_effects.proofs.copying.copy_answers.Goals as goal

pub with_answer-requires-clause-answers : goal.with_answer-requires-clause-answers
with_answer-requires-clause-answers g c = IsCond-extends answer_cmp c.in_ok-failing.ensures.extends c.in_ok-passes.passes (IsCond-of answer_cmp _ _ c.in_ok-passes.passes c.in_ok-passes.ensures.ok)

pub with_answer-requires-clause-known : goal.with_answer-requires-clause-known
with_answer-requires-clause-known g c = c.in_ok-failing.ensures.ok.known

pub with_answer-requires-clause-disjoint : goal.with_answer-requires-clause-disjoint
with_answer-requires-clause-disjoint g c = answers-disjoint c.args.fitting c.in_ok-failing.failing c.args.condition c.in_ok-passes.passes c.requires.inside c.requires.known c.requires.fitting c.in_ok-passes.ensures.ok c.in_ok-passes.ensures.scope c.in_ok-failing.ensures.extends c.in_ok-failing.ensures.ok

pub returns-clause-extends : goal.returns-clause-extends
returns-clause-extends g c = Extends-trans c.in_ok-failing.ensures.extends c.in_ok-answers.ensures.extends

pub returns-clause-cond : goal.returns-clause-cond
returns-clause-cond g c = IsCond-of answer_cmp _ _ c.in_ok-answers.answers c.in_ok-answers.ensures.ok

pub returns-clause-scope : goal.returns-clause-scope
returns-clause-scope g c = answers-scope c.args.fitting c.in_ok-failing.failing c.args.condition c.in_ok-passes.passes c.requires.inside c.requires.known c.requires.fitting c.in_ok-passes.ensures.ok c.in_ok-passes.ensures.scope c.in_ok-failing.ensures.extends c.in_ok-failing.ensures.ok (g.met.S.Space.lawful c.with_answer.new.space) c.in_ok-answers.ensures.extends c.raised-failed.result c.in_ok-answers.answers c.in_ok-answers.ensures.ok

pub returns-clause-at : goal.returns-clause-at
returns-clause-at g c = λ d t.
    answers-at c.args.fitting c.in_ok-failing.failing c.args.condition c.in_ok-passes.passes c.requires.inside c.requires.known c.requires.fitting c.in_ok-passes.ensures.ok c.in_ok-passes.ensures.scope c.in_ok-failing.ensures.extends c.in_ok-failing.ensures.ok (g.met.S.Space.lawful c.with_answer.new.space) c.in_ok-answers.ensures.extends c.raised-failed.result c.in_ok-answers.answers c.in_ok-answers.ensures.ok d t
    ∙ ap (λ a. if (g.S.Space.sets c.args.space.now).test c.args.fitting d then Pass else a) (store_raised c.args.program.now c.raised-failed.result c.raised-failed.ensures)
