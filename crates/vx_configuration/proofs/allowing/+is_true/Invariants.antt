use Rattle.std.proofs.Common.{◌≡◌, ◌≤◌, ◌+◌, ◌*◌, length}
use Rattle.vx_model.specs.Formula.{formula_size, all_sizes, formulas}
use Rattle.vx_model.specs.Truth.{all_true, any_true}
use Rattle.vx_configuration.proofs.allowing.+is_true.Given as goal

abbrev pub decreases-is_true : goal.decreases-is_true
decreases-is_true l = 2 * formula_size l.rule.now + 2

abbrev pub decreases-are_all_true : goal.decreases-are_all_true
decreases-are_all_true l = 2 * all_sizes (formulas l.rules.now) + 1

abbrev pub decreases-is_any_true : goal.decreases-is_any_true
decreases-is_any_true l = 2 * all_sizes (formulas l.rules.now) + 1

-- what is left decides, and is nested no deeper
abbrev pub invariant-are_all_true-loop-left : goal.invariant-are_all_true-loop-left
invariant-are_all_true-loop-left l = record {
  decides : all_true (formulas l.rules) l.values ≡ all_true (formulas l.left) l.values;
  sizes : all_sizes (formulas l.left) ≤ all_sizes (formulas l.rules);
}

abbrev pub decreases-are_all_true-loop-left : goal.decreases-are_all_true-loop-left
decreases-are_all_true-loop-left l = length l.left

abbrev pub invariant-is_any_true-loop-left : goal.invariant-is_any_true-loop-left
invariant-is_any_true-loop-left l = record {
  decides : any_true (formulas l.rules) l.values ≡ any_true (formulas l.left) l.values;
  sizes : all_sizes (formulas l.left) ≤ all_sizes (formulas l.rules);
}

abbrev pub decreases-is_any_true-loop-left : goal.decreases-is_any_true-loop-left
decreases-is_any_true-loop-left l = length l.left
