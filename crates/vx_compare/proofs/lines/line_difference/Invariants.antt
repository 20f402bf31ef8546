use Rattle.std.proofs.Common.{◌≡◌, ◌+◌, ◌≤◌, length}
use Rattle.vx_compare.specs.Lines.{line_difference, lines_of}
use Rattle.vx_compare.proofs.lines.line_difference.Given as goal

-- the lines that are left, with the number of the first one
abbrev pub invariant-loop-one : goal.invariant-loop-one
invariant-loop-one l =
    (line_difference l.stream l.number (lines_of l.one) (lines_of l.other) ≡ line_difference l.stream 1 (lines_of l.initial.one) (lines_of l.initial.other))
    × (l.number + length l.one ≤ length l.initial.one + 1)

abbrev pub decreases-loop-one : goal.decreases-loop-one
decreases-loop-one l = length l.one + length l.other
