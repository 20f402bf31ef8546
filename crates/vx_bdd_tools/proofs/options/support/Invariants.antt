use Rattle.vx_bdd_tools.proofs.Supports.{IsSupportBelow}
use Rattle.vx_bdd_tools.proofs.options.support.Given as goal

abbrev pub invariant-loop-option : goal.invariant-loop-option
invariant-loop-option g l = IsSupportBelow ((g.S.Space.sets l.space).test l.fn.id) l.option l.options.items
