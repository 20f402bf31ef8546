use Rattle.std.proofs.Common.{None, length, ◌++◌, ◌+◌, ◌≡◌, ◌≤◌}
use Rattle.vx_spots.specs.Texts.{notes_text}
use Rattle.vx_spots.proofs.reasons.put_notes.Given as goal

-- what is put, before the entries that are left
abbrev pub invariant-loop-rest : goal.invariant-loop-rest
invariant-loop-rest l =
    (l.out.items ++ notes_text l.told.program.now l.told.tables.now l.told.spots.now l.kind l.last l.count l.rest
    ≡ l.initial.out.items ++ notes_text l.told.program.now l.told.tables.now l.told.spots.now l.kind None 0 l.entries)
    × (l.count + length l.rest ≤ length l.entries)

abbrev pub decreases-loop-rest : goal.decreases-loop-rest
decreases-loop-rest l = length l.rest
