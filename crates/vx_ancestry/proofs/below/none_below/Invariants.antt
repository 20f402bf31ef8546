use Rattle.std.proofs.Common.{◌≡◌, map, take, false}
use Rattle.vx_ancestry.proofs.below.none_below.Given as goal

abbrev pub invariant-loop-row : goal.invariant-loop-row
invariant-loop-row l = l.below.items ≡ map (λ row. false) (take l._row-index l.parents)
