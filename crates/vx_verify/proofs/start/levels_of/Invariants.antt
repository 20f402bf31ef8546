use Rattle.vx_verify.proofs.start.levels_of.Given as goal

abbrev pub invariant-loop-levels : goal.invariant-loop-levels
invariant-loop-levels l = Unit {0}
