use Rattle.std.proofs.Common.{length, List, map, ℕ, ◌++◌, ◌≡◌}
use Rattle.std.specs.Prelude.{string_bytes}
use Rattle.vx_outlines.specs.Refusals.{files_text}
use Rattle.vx_outlines.proofs.refusal.put_files.Given as goal

-- what is put, before the files that are left
abbrev pub invariant-loop-rest : goal.invariant-loop-rest
invariant-loop-rest l =
    (done : List ℕ) × (l.out.items ≡ l.initial.out.items ++ done)
    × (done ++ files_text l.name l.rest (map string_bytes l.left) ≡ files_text l.name l.classes (map string_bytes l.paths))

abbrev pub decreases-loop-rest : goal.decreases-loop-rest
decreases-loop-rest l = length l.rest
