use Rattle.std.proofs.Common.{◌^◌, ◌<◌, ◌∙◌, ap, arith, length}
use Rattle.std.proofs.lemmas.Result.{IfOk-weaker}
use Rattle.vx_cond.proofs.CondLaws.{IsCond-of}
use Rattle.vx_group.proofs.GroupLaws.{IsGroup-path_known}
use Rattle.vx_group_states.specs.Answers.{answer_cmp}
use Rattle.vx_objects.proofs.Missing.{answered-gives}
use Rattle.vx_objects.proofs.casting.answered_part.Goals as goal

pub one-requires : goal.one-requires
one-requires g c = rw c.path.ensures (IsGroup-path_known _ c.args.group c.requires.group)

pub carry_out-requires-clause-ready : goal.carry_out-requires-clause-ready
carry_out-requires-clause-ready g c =
    let few : length c.args.group.top.stack.conds < 2 ^ 32 = rw (← c.group.view_is) c.group.invariant.1 in
    record {
      is_group = c.requires.group;
      past = c.requires.past;
      enough = omega (arith, c.requires.operand);
      few = omega (arith, few);
      are_answers = IsCond-of answer_cmp _ _ c.in_ok-answers.answers c.in_ok-answers.ensures.ok;
      inside = record { inside = λ d t. ap (λ i. (g.S.Space.sets c.args.space.now).test i d) (c.in_ok-answers.ensures.scope ∙ c.path.ensures) ∙ t };
    }

pub carry_out-requires-clause-scope : goal.carry_out-requires-clause-scope
carry_out-requires-clause-scope g c = c.in_ok-answers.ensures.scope ∙ c.path.ensures

pub returns-clause-gives : goal.returns-clause-gives
returns-clause-gives g c =
    IfOk-weaker c.carry_out.result _ _ (λ r' h'. answered-gives c.args.site.now _ c.args.group c.in_ok-answers.answers c.args.answer _ c.requires.names (rw c.path.ensures at c.in_ok-answers.ensures.ok) h')
    c.carry_out.ensures.gives
