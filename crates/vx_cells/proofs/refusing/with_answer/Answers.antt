use Rattle.vx_cond.proofs.CondLaws.{IsCond-of}
use Rattle.std.proofs.lemmas.Result.{IfOk-weaker}
use Rattle.vx_group_states.specs.Answers.{answer_cmp}
use Rattle.vx_cells.proofs.Passing.{with_answer_at}
use Rattle.vx_cells.proofs.refusing.with_answer.Goals as goal

pub join-requires-clause-second : goal.join-requires-clause-second
join-requires-clause-second g c = IsCond-of answer_cmp _ _ c.in_ok-made.made c.in_ok-made.ensures.ok

pub returns-clause-ok : goal.returns-clause-ok
returns-clause-ok g c = IfOk-weaker c.join.result _ _ (λ r h. with_answer_at _ _ c.args.answers.now c.in_ok-made.made r c.args.answer c.args.condition c.requires.answers c.requires.disjoint c.in_ok-made.ensures.ok h) c.join.ensures.ok
