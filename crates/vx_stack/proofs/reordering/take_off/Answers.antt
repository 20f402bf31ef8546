use Rattle.std.proofs.Common.{◌≡◌, ◌+◌, ◌∙◌, ap, refl, sym, arith, length, drop, take}
use Rattle.vx_value.specs.Slot.{slot_cmp}
use Rattle.vx_cond.proofs.SideLaws.{IsRow-scope_known}
use Rattle.vx_group_states.specs.Answering.{operands_at}
use Rattle.vx_group_states.proofs.AnswerLaws.{IsDropping-nonempty}
use Rattle.vx_stack.proofs.OrderLaws.{IsTaking-start, IsTaking-step}
use Rattle.vx_stack.proofs.reordering.take_off.Goals as goal

pub loop-operand-init : goal.loop-operand-init
loop-operand-init g c = IsTaking-start _ c.args.stack.now _ _ c.requires.row c.scope.ensures (IsRow-scope_known slot_cmp _ c.args.stack.now c.requires.row) c.new-taken.ensures

pub unreachable-requires : goal.unreachable-requires
unreachable-requires g c = IsDropping-nonempty _ c.args.stack.now c.loop-operand.stack _ _ c.loop-operand.invariant.dropping c.loop-operand-test.true c.requires.enough (c.in_default.ensures.none.0 refl)

pub loop-operand-preserved : goal.loop-operand-preserved
loop-operand-preserved g c = IsTaking-step _ c.args.stack.now c.loop-operand.stack c.pop.new.self c.loop-operand.taken c.push.new.self _ _ c.loop-operand.invariant c.in-Some.ensures.some c.in_ok-push.ensures.ok

pub returns : goal.returns
returns g c =
    let all : c.loop-operand._operand ≡ c.args.count = omega (arith, c.loop-operand-test.false, c.loop-operand.auto._operand-end) in
    let kept = c.loop-operand.invariant in
    record {
      row = kept.dropping.is_row;
      scope = kept.dropping.scope;
      length = ap (λ n. length c.loop-operand.stack.conds + n) (sym all) ∙ kept.dropping.number;
      left = λ d. kept.dropping.at d ∙ ap (λ n. drop n (operands_at (g.S.Space.sets c.args.space.now) c.args.stack.now d)) all;
      taken_row = kept.is_row;
      taken_scope = kept.scope;
      taken_length = kept.number ∙ all;
      taken = λ d. kept.at d ∙ ap (λ n. take n (operands_at (g.S.Space.sets c.args.space.now) c.args.stack.now d)) all;
    }
