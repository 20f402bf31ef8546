use Rattle.vx_numbered.proofs.trees.Trees.+with_leaf.Given as goal

abbrev pub decreases-with_leaf : goal.decreases-with_leaf
decreases-with_leaf l = l.levels
