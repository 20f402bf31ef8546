use Rattle.std.proofs.Common.{ap}
use Rattle.std.proofs.lemmas.Result.{IfOk-weaker}
use Rattle.vx_cond.proofs.CondLaws.{IsCond-of}
use Rattle.vx_group.proofs.GroupLaws.{IsGroup-path_known}
use Rattle.vx_families.specs.Pushing.{is_push}
use Rattle.vx_group_states.specs.Answers.{answer_cmp}
use Rattle.vx_locals.proofs.Loads.{constant-gives, constant_at}
use Rattle.vx_locals.proofs.constants.push_constant.Goals as goal

pub one-requires : goal.one-requires
one-requires g c = rw c.path.ensures (IsGroup-path_known _ c.args.group c.requires.group)

pub push_answers-requires-clause-answers : goal.push_answers-requires-clause-answers
push_answers-requires-clause-answers g c = IsCond-of answer_cmp _ _ c.in_ok-answers.answers c.in_ok-answers.ensures.ok

pub push_answers-requires-clause-pushes : goal.push_answers-requires-clause-pushes
push_answers-requires-clause-pushes g c = λ d t. ap is_push (constant_at _ _ _ c.args.value c.in_ok-answers.answers c.path.ensures c.in_ok-answers.ensures.ok d t)

pub returns-clause-gives : goal.returns-clause-gives
returns-clause-gives g c = IfOk-weaker c.push_answers.result _ _ (λ r h. constant-gives c.args.site.now _ c.args.group c.args.value c.in_ok-answers.answers _ (constant_at _ _ _ c.args.value c.in_ok-answers.answers c.path.ensures c.in_ok-answers.ensures.ok) h) c.push_answers.ensures.gives
