use Rattle.std.proofs.Common.{take}
use Rattle.vx_space.specs.Sets.{Extends}
use Rattle.vx_compare.proofs.SeenSets.{AreSeenSoFar}
use Rattle.vx_compare.proofs.wide.seen_sets.Given as goal

abbrev pub invariant-loop-node : goal.invariant-loop-node
invariant-loop-node g l = record {
  extends : Extends (g.S.Space.sets l.fn.space) (g.S.Space.sets l.space);
  so_far : AreSeenSoFar (g.S.Space.sets l.space) l.fn.places (take l.node-index l.fn.nodes) l.ids.items;
}
