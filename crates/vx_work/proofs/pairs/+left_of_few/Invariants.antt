use Rattle.vx_work.proofs.pairs.+left_of_few.Given as goal

abbrev pub decreases-left_of_few : goal.decreases-left_of_few
decreases-left_of_few g l = l.left
