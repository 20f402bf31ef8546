-- How a rule of the program is seen.
use Rattle.vx_model.specs.Formula as tree
use Rattle.vx_model.specs.Formula.{Formula, formulas}
use Rattle.vx_model.specs.declared.expr.Form.{Form}
use Rattle.vx_model.specs.declared.expr.Form.TheVariants.{True, False, Named, Not, And, Or, Implies}

abbrev pub formula : Form → Formula
formula True = tree.Always
formula False = tree.Never
formula (Named n) = tree.Named n
formula (Not e) = tree.Not e.value
formula (And es) = tree.And (formulas es.items)
formula (Or es) = tree.Or (formulas es.items)
formula (Implies e d) = tree.Implies e.value d.value
