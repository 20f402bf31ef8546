use Rattle.vx_numbered.proofs.trees.Trees.+leaf.Given as goal

abbrev pub decreases-leaf : goal.decreases-leaf
decreases-leaf l = l.levels
