use Rattle.vx_switches.proofs.Pairs.{IsSearching}
use Rattle.vx_switches.proofs.pair_jump.Given as goal

abbrev pub invariant-loop-pair : goal.invariant-loop-pair
invariant-loop-pair l = IsSearching l.code l.fn.key l.fn.fallback l.pairs l.first l.pair
