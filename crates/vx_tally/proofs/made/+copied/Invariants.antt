use Rattle.vx_tally.proofs.made.+copied.Given as goal

abbrev pub decreases-copied : goal.decreases-copied
decreases-copied l = l.place
