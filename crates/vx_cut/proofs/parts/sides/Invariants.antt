use Rattle.std.proofs.Common.{◌≡◌, ◌≤◌, drop, length}
use Rattle.vx_cut.specs.Parts.{sides}
use Rattle.vx_cut.proofs.parts.sides.Given as goal

abbrev pub invariant-loop-left : goal.invariant-loop-left
invariant-loop-left l = record {
  within : l.left ≤ length l.chosen;
  so_far : l.terms.items ≡ sides l.left (drop l.left l.chosen);
}

abbrev pub decreases-loop-left : goal.decreases-loop-left
decreases-loop-left l = l.left
