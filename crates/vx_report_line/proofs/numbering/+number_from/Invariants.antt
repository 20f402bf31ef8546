use Rattle.vx_report_line.proofs.numbering.+number_from.Given as goal

abbrev pub decreases-number_from : goal.decreases-number_from
decreases-number_from l = l.node
