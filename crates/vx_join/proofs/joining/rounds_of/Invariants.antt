use Rattle.std.proofs.Common.{◌≡◌, ◌∷◌, take}
use Rattle.vx_join.specs.Joined.{rounds_of}
use Rattle.vx_join.proofs.joining.rounds_of.Given as goal

abbrev pub invariant-loop-report : goal.invariant-loop-report
invariant-loop-report l = l.rounds ≡ rounds_of (l.first ∷ take l.report-index l.others)
