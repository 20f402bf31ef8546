use Rattle.std.proofs.Common.{take}
use Rattle.vx_cut.proofs.Sets.{IsPart}
use Rattle.vx_cut.proofs.parts.term_set.Given as goal

abbrev pub invariant-loop-literal : goal.invariant-loop-literal
invariant-loop-literal g l = IsPart (g.S.Space.sets l.initial.space) (g.S.Space.sets l.space) l.fn.set l.part (take l.literal-index l.term)
