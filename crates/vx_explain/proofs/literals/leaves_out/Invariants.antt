use Rattle.vx_explain.proofs.LeftOut.{LeadsOut}
use Rattle.vx_explain.proofs.literals.leaves_out.Given as goal

abbrev pub invariant-loop-turn : goal.invariant-loop-turn
invariant-loop-turn g l = LeadsOut (g.S.Space.sets l.space) l.fn.set l.at l.literal
