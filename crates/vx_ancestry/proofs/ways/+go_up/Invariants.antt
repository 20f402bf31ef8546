use Rattle.vx_ancestry.proofs.ways.+go_up.Given as goal

abbrev pub decreases-go_up : goal.decreases-go_up
decreases-go_up l = l.depth
