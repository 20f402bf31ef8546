use Rattle.vx_space.specs.Sets.{Extends}
use Rattle.vx_cover.specs.Targets.{IsPart}
use Rattle.vx_cover.proofs.trying.met_with_all.Given as goal

abbrev pub invariant-loop-block : goal.invariant-loop-block
invariant-loop-block g l = record {
  extends : Extends (g.S.Space.sets l.fn.space) (g.S.Space.sets l.space);
  part : IsPart (g.S.Space.sets l.fn.space) (g.S.Space.sets l.space) l.fn.first l.met;
}
