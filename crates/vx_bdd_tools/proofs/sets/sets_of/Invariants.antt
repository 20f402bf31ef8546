use Rattle.std.proofs.Common.{take}
use Rattle.vx_space.specs.Sets.{Extends}
use Rattle.vx_bdd_tools.proofs.ListedSets.{AreSetsSoFar}
use Rattle.vx_bdd_tools.proofs.sets.sets_of.Given as goal

abbrev pub invariant-loop-node : goal.invariant-loop-node
invariant-loop-node g l = record {
  extends : Extends (g.S.Space.sets l.fn.space) (g.S.Space.sets l.space);
  so_far : AreSetsSoFar (g.S.Space.sets l.space) (take l.node-index l.nodes) l.ids.items;
}
