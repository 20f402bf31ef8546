use Rattle.std.proofs.Common.{◌≡◌}
use Rattle.vx_ancestry.specs.Ancestors.{below_within}
use Rattle.vx_ancestry.proofs.below.all_below.Given as goal

abbrev pub invariant-loop-steps : goal.invariant-loop-steps
invariant-loop-steps l = l.below.items ≡ below_within l.parents l.above l._steps
