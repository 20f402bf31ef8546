use Rattle.vx_init.proofs.ChainLaws.{IsPushing}
use Rattle.vx_init.proofs.pushing.push_chain.Given as goal

abbrev pub invariant-loop-place : goal.invariant-loop-place
invariant-loop-place g l = IsPushing l.program (g.S.Space.sets l.space) l.fn.callers l.callers l.fn.group l.chain l.place l.pushed
