use Rattle.std.proofs.Common.{All}
use Rattle.vx_work.specs.Pairs.{AreBothKnown}
use Rattle.vx_work.proofs.pairs.distinct_pairs.Given as goal

abbrev pub invariant-loop-pairs : goal.invariant-loop-pairs
invariant-loop-pairs g l = All (AreBothKnown (g.S.Space.sets l.space)) l.open.items
