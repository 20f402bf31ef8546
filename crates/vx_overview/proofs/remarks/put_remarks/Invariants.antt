use Rattle.std.proofs.Common.{length, ◌++◌, ◌+◌, ◌≡◌, ◌≤◌}
use Rattle.vx_words.specs.Lines.{lines}
use Rattle.vx_overview.specs.Remarks.{remarks_from, remarks_text}
use Rattle.vx_overview.proofs.remarks.put_remarks.Given as goal

-- what is put, before what is remarked of the lines that are left
abbrev pub invariant-loop-line : goal.invariant-loop-line
invariant-loop-line l =
    (l.out.items ++ remarks_from l.most l.number (lines l.rest) ≡ l.initial.out.items ++ remarks_text l.most l.text)
    × ((l.number + length l.rest ≤ length l.text + 1) × (l.held ≤ length l.out.items))

abbrev pub decreases-loop-line : goal.decreases-loop-line
decreases-loop-line l = length l.rest
