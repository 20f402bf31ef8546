use Rattle.std.proofs.Common.{take}
use Rattle.vx_cut.proofs.Sets.{AreMet}
use Rattle.vx_cut.proofs.parts.met_terms.Given as goal

abbrev pub invariant-loop-term : goal.invariant-loop-term
invariant-loop-term g l = AreMet (g.S.Space.sets l.initial.space) (g.S.Space.sets l.space) l.model (take l.term-index l.terms) l.found.items
