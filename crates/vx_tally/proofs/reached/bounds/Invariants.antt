use Rattle.vx_tally.specs.Answers.{AreBounds}
use Rattle.vx_tally.proofs.reached.bounds.Given as goal

abbrev pub invariant-loop-index : goal.invariant-loop-index
invariant-loop-index l = AreBounds l.nodes l.index l.bounds.items
