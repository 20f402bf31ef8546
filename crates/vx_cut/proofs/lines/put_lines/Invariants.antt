use Rattle.std.proofs.Common.{length, ◌++◌, ◌≡◌, ◌≤◌}
use Rattle.vx_cut.specs.Texts.{lines_with}
use Rattle.vx_cut.proofs.lines.put_lines.Given as goal

-- what is put, before the lines that are left
abbrev pub invariant-loop-rest : goal.invariant-loop-rest
invariant-loop-rest l =
    (l.out.items ++ lines_with l.dimacs l.model l.more l.rest ≡ l.initial.out.items ++ lines_with l.dimacs l.model l.more l.text) × (l.held ≤ length l.out.items)

abbrev pub decreases-loop-rest : goal.decreases-loop-rest
decreases-loop-rest l = length l.rest
