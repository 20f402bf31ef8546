use Rattle.std.proofs.Common.{drop}
use Rattle.vx_check.specs.Finding.{IsSound}
use Rattle.vx_check.specs.Lines.{AreKnownEnds}
use Rattle.vx_check.proofs.Found.{LeadsMissed}
use Rattle.vx_check.proofs.checking.find_missed.Given as goal

abbrev pub invariant-loop-line : goal.invariant-loop-line
invariant-loop-line g l = IsSound (g.S.Space.sets l.space) g.S.Id.Ord.cmp l.finding × LeadsMissed (g.S.Space.sets l.fn.space) (g.S.Space.sets l.space) l.scope l.ends l.expected (drop l.line-index l.expected) l.spoken l.fn.finding l.finding
