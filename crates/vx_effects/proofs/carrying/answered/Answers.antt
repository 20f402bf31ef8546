use Rattle.vx_cond.proofs.CondLaws.{IsCond-of}
use Rattle.vx_families.proofs.Operands.{one_answer}
use Rattle.vx_group_states.specs.Answers.{answer_cmp}
use Rattle.vx_effects.proofs.Carried.{one-done}
use Rattle.vx_effects.proofs.carrying.answered.Goals as goal

pub one-requires : goal.one-requires
one-requires g c = c.in_ok-answer.ensures.extends.known c.args.condition c.requires.known

pub returns-clause-done : goal.returns-clause-done
returns-clause-done g c = one-done c.args.program.now c.in_ok-answer.ensures.extends c.args.heap.now c.answer_to.new.heap c.args.condition _ c.in_ok-answer.answer c.in_ok-one.one c.requires.known c.in_ok-answer.ensures.done (IsCond-of answer_cmp _ _ c.in_ok-one.one c.in_ok-one.ensures.ok) c.in_ok-one.ensures.scope (one_answer _ c.args.condition c.in_ok-answer.answer c.in_ok-one.one c.in_ok-one.ensures.ok)
