use Rattle.std.proofs.Common.{replicate, ◌^◌}
use Rattle.vx_numbered.specs.Trees.{IsMade}
use Rattle.vx_numbered.proofs.trees.Trees.row_of.Given as goal

abbrev pub invariant-loop-level : goal.invariant-loop-level
invariant-loop-level l = IsMade l.fn.self.pairs.items l.self.pairs.items l._level l.tree (replicate (2 ^ l._level) l.leaf)
