use Rattle.vx_ancestry.proofs.ways.+leads_up.Given as goal

abbrev pub decreases-leads_up : goal.decreases-leads_up
decreases-leads_up l = l.steps
