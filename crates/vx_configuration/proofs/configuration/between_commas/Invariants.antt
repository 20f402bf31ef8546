use Rattle.vx_configuration.proofs.Commas.{SoFar}
use Rattle.vx_configuration.proofs.configuration.between_commas.Given as goal

-- the names so far, and what is left behind the last comma
abbrev pub invariant-loop-i : goal.invariant-loop-i
invariant-loop-i l = SoFar l.word l.names.items l.start l.i
