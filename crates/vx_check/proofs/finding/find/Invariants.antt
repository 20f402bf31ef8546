use Rattle.std.proofs.Common.{drop}
use Rattle.std.specs.Prelude.{option_copied}
use Rattle.vx_check.specs.Finding.{IsSound}
use Rattle.vx_check.proofs.Found.{LeadsIn}
use Rattle.vx_check.proofs.finding.find.Given as goal

abbrev pub invariant-loop-ended : goal.invariant-loop-ended
invariant-loop-ended g l = IsSound (g.S.Space.sets l.space) g.S.Id.Ord.cmp l.finding × LeadsIn (g.S.Space.sets l.fn.space) (g.S.Space.sets l.space) l.scope l.ends (drop l.ended-index l.ends) (option_copied l.line) l.set l.fn.finding l.finding
