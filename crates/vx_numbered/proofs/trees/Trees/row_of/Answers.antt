use Rattle.vx_numbered.proofs.TreeLaws.{row_more, row_of_leaf}
use Rattle.vx_numbered.proofs.trees.Trees.row_of.Goals as goal

pub loop-level-init : goal.loop-level-init
loop-level-init c = row_of_leaf c.args.self.now.pairs.items c.args.leaf

pub loop-level-preserved : goal.loop-level-preserved
loop-level-preserved c = row_more c.args.self.now.pairs.items c.loop-level.self.pairs.items c.paired_or_back.new.self.pairs.items c.loop-level._level c.loop-level.tree c.args.leaf c.in_ok-tree.tree c.loop-level.invariant c.in_ok-tree.ensures.ok
