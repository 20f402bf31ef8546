use Rattle.std.proofs.Common.{ℕ, ◌+◌, ◌≤◌, List, drop, length}
use Rattle.vx_picture.specs.Marks.{AreMarks}
use Rattle.vx_picture.specs.Pictures.{reached}
use Rattle.vx_picture.proofs.marks.mark_nodes.Given as goal

abbrev pub invariant-loop-left : goal.invariant-loop-left
invariant-loop-left l = record {
  within : l.left ≤ length l.nodes;
  marks : (numbers : List ℕ) → AreMarks l.fn.marks numbers → AreMarks l.marks (reached numbers (l.left + 2) (drop l.left l.nodes));
}

abbrev pub decreases-loop-left : goal.decreases-loop-left
decreases-loop-left l = l.left
