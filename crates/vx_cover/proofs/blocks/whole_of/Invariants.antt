use Rattle.std.proofs.Common.{take}
use Rattle.vx_space.specs.Sets.{Extends}
use Rattle.vx_cover.specs.Blocks.{IsWhole}
use Rattle.vx_cover.proofs.blocks.whole_of.Given as goal

abbrev pub invariant-loop-target : goal.invariant-loop-target
invariant-loop-target g l = record {
  extends : Extends (g.S.Space.sets l.fn.space) (g.S.Space.sets l.space);
  whole : IsWhole (g.S.Space.sets l.space) l.whole (take l.target-index l.targets);
}
