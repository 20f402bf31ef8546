use Rattle.vx_cut.proofs.Chosen.{IsOpenBelow}
use Rattle.vx_cut.proofs.choosing.best_open.Given as goal

abbrev pub invariant-loop-place : goal.invariant-loop-place
invariant-loop-place l = IsOpenBelow l.chosen l.place l.best
