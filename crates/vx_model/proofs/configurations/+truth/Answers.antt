use Rattle.std.proofs.Common.{rules, ◌+◌, ◌<◌, ◌≤◌, length, arith}
use Rattle.vx_model.specs.Formula.{formula_size, all_sizes, formulas}
use Rattle.vx_model.proofs.Sets.{all_goes_on, any_goes_on, size_at, names_since}
use Rattle.vx_model.proofs.configurations.+truth.Goals as goal

pub all_true-truth-requires : goal.all_true-truth-requires
all_true-truth-requires g t c κs within =
    let lt : c.loop-rule.rule-index < length c.args.rules.now = omega arith in
    let smaller : formula_size c.rule-item.result + 1 ≤ all_sizes (formulas c.args.rules.now) = size_at c.args.rules.now c.loop-rule.rule-index c.rule-item.result lt c.rule-item.is in
    let named = names_since _ _ c.args.rules.now c.loop-rule.rule-index c.rule-item.result c.loop-rule.invariant.extends.options lt c.rule-item.is c.requires in
    search (rules, smaller, named)

pub any_true-truth-requires : goal.any_true-truth-requires
any_true-truth-requires g t c κs within =
    let lt : c.loop-rule.rule-index < length c.args.rules.now = omega arith in
    let smaller : formula_size c.rule-item.result + 1 ≤ all_sizes (formulas c.args.rules.now) = size_at c.args.rules.now c.loop-rule.rule-index c.rule-item.result lt c.rule-item.is in
    let named = names_since _ _ c.args.rules.now c.loop-rule.rule-index c.rule-item.result c.loop-rule.invariant.extends.options lt c.rule-item.is c.requires in
    search (rules, smaller, named)

pub all_true-loop-rule-preserved : goal.all_true-loop-rule-preserved
all_true-loop-rule-preserved g t c =
    let lt : c.loop-rule.rule-index < length c.args.rules.now = omega arith in
    all_goes_on _ _ _ _ _ _ _ _ _ _ lt c.rule-item.is c.loop-rule.invariant c.in_ok-held.ensures.extends c.in_ok-held.ensures.ok c.in_ok-set.ensures.extends c.in_ok-set.ensures.ok

pub any_true-loop-rule-preserved : goal.any_true-loop-rule-preserved
any_true-loop-rule-preserved g t c =
    let lt : c.loop-rule.rule-index < length c.args.rules.now = omega arith in
    any_goes_on _ _ _ _ _ _ _ _ _ _ lt c.rule-item.is c.loop-rule.invariant c.in_ok-held.ensures.extends c.in_ok-held.ensures.ok c.in_ok-set.ensures.extends c.in_ok-set.ensures.ok
