use Rattle.vx_check.proofs.Endings.{AreEndedTo}
use Rattle.vx_check.proofs.ended.ended_of.Given as goal

abbrev pub invariant-loop-line : goal.invariant-loop-line
invariant-loop-line g l = AreEndedTo l.report l.firsts l.line-index l.all.items
