use Rattle.vx_stack.specs.Cuts.{first_cut}
use Rattle.vx_stack.proofs.CutLoops.{IsCutting}
use Rattle.vx_stack.proofs.cutting.cuts.Given as goal

abbrev pub invariant-loop-i : goal.invariant-loop-i
invariant-loop-i g l = IsCutting (g.S.Space.sets l.fn.space) (g.S.Space.sets l.space) l.stack (first_cut l.fn.form) l.i l.found
