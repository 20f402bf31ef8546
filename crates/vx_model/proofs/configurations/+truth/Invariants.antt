use Rattle.std.proofs.Common.{◌+◌, ◌*◌, take}
use Rattle.vx_model.specs.Formula.{formula_size, all_sizes, formulas}
use Rattle.vx_model.specs.Truth.{all_true, any_true}
use Rattle.vx_model.proofs.Sets.{IsSetSince}
use Rattle.vx_model.proofs.configurations.+truth.Given as goal

abbrev pub decreases-truth : goal.decreases-truth
decreases-truth g l = 2 * formula_size l.rule.now + 2

abbrev pub decreases-all_true : goal.decreases-all_true
decreases-all_true g l = 2 * all_sizes (formulas l.rules.now) + 1

abbrev pub decreases-any_true : goal.decreases-any_true
decreases-any_true g l = 2 * all_sizes (formulas l.rules.now) + 1

abbrev pub invariant-all_true-loop-rule : goal.invariant-all_true-loop-rule
invariant-all_true-loop-rule g l =
    IsSetSince (g.S.Space.sets l.initial.space) (g.S.Space.sets l.space) l.set (all_true (formulas (take l.rule-index l.rules)))

abbrev pub invariant-any_true-loop-rule : goal.invariant-any_true-loop-rule
invariant-any_true-loop-rule g l =
    IsSetSince (g.S.Space.sets l.initial.space) (g.S.Space.sets l.space) l.set (any_true (formulas (take l.rule-index l.rules)))
