use Rattle.std.proofs.Common.{◌≡◌, ◌+◌, ◌∙◌, ap, refl, sym, arith, length, drop}
use Rattle.vx_group_states.specs.Answering.{operands_at}
use Rattle.vx_group_states.proofs.AnswerLaws.{IsDropping-nonempty, IsDropping-start, IsDropping-step}
use Rattle.vx_group_states.proofs.answering.drop_operands.Goals as goal

pub loop-operand-init : goal.loop-operand-init
loop-operand-init g c = IsDropping-start _ c.args.stack.now c.requires.row

pub unreachable-requires : goal.unreachable-requires
unreachable-requires g c = IsDropping-nonempty _ c.args.stack.now c.loop-operand.stack _ _ c.loop-operand.invariant c.loop-operand-test.true c.requires.enough (c.in_default.ensures.none.0 refl)

pub loop-operand-preserved : goal.loop-operand-preserved
loop-operand-preserved g c = IsDropping-step _ c.args.stack.now c.loop-operand.stack _ _ _ c.loop-operand.invariant c.in-Some.ensures.some

pub returns : goal.returns
returns g c =
    let all : c.loop-operand._operand ≡ c.args.count = omega (arith, c.loop-operand-test.false, c.loop-operand.auto._operand-end) in
    record {
      row = c.loop-operand.invariant.is_row;
      scope = c.loop-operand.invariant.scope;
      length = ap (λ n. length c.loop-operand.stack.conds + n) (sym all) ∙ c.loop-operand.invariant.number;
      at = λ d. c.loop-operand.invariant.at d ∙ ap (λ n. drop n (operands_at (g.S.Space.sets c.args.space.now) c.args.stack.now d)) all;
    }
