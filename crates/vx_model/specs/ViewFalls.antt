-- Each part of a rule is smaller than the rule.
use Rattle.std.specs.Prelude.{◌+◌, ◌≤◌, max, List, [], ◌∷◌}
use Rattle.std.proofs.Common.{arith}
use denote.Param.Weighed.{most}
use Rattle.vx_model.specs.Formula.{Formula, formulas, formula_size, all_sizes}
use Rattle.vx_model.specs.View.{formula}
use Rattle.vx_model.specs.declared.expr.Form.{Form}
use Rattle.vx_model.specs.declared.expr.Form.TheVariants.{True, False, Named, Not, And, Or, Implies}
use Rattle.vx_model.specs.declared.expr.Expr.TheDeep.{deep-Form}

pub most_le-all_sizes : (fs : List Formula) → most (λ f. formula_size f + 1) fs ≤ all_sizes (formulas fs)
most_le-all_sizes [] = omega arith
most_le-all_sizes (f ∷ fs) = omega (arith, most_le-all_sizes fs)

pub depth_le-formula_size : (f : Form) → max (deep-Form f) 0 ≤ formula_size (formula f)
depth_le-formula_size True = omega arith
depth_le-formula_size False = omega arith
depth_le-formula_size (Named n) = omega arith
depth_le-formula_size (Not e) = omega arith
depth_le-formula_size (And es) = omega (arith, most_le-all_sizes es.items)
depth_le-formula_size (Or es) = omega (arith, most_le-all_sizes es.items)
depth_le-formula_size (Implies e d) = omega arith
