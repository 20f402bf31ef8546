use Rattle.std.proofs.Common.{◌∷◌, take}
use Rattle.vx_join.proofs.Reports.{IsCollecting}
use Rattle.vx_join.proofs.collecting.collect.Given as goal

abbrev pub invariant-loop-report : goal.invariant-loop-report
invariant-loop-report g l = IsCollecting (g.S.Space.sets l.fn.space) (g.S.Space.sets l.space) (l.first ∷ take l.report-index l.others) l.unsaid l.collected
