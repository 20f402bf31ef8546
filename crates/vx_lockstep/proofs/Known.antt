-- The ids that findings hold are known.
use Rattle.std.proofs.Common.{ℕ, Bool}
use Rattle.std.specs.Ordering.{nat_cmp}
use Rattle.std.specs.Prelude.{◌++◌}
use Rattle.vx_heap.proofs.Known.{AreKnown-append}
use Rattle.vx_java.specs.Step.{Config}
use Rattle.vx_link.specs.declared.program.Program.{Program}
use Rattle.vx_standing.proofs.Keeping.{findings_known}
use Rattle.vx_standing.specs.State.{shared_ids}
use Rattle.vx_space.specs.Sets.{AreKnown, Sets}
use Rattle.vx_value.specs.Ends.{compare_ends}
use Rattle.vx_lockstep.specs.Findings.{AreFindings, FindingsView}

pub found_known : {S I : Type 0} (p : Program) (sets : Sets I) (allowed : Config → Bool) (limit : ℕ) (f : FindingsView S I) → AreFindings p sets allowed limit f → AreKnown sets (shared_ids f.found ++ (shared_ids f.ends ++ shared_ids f.spent))
found_known p sets allowed limit f found =
    AreKnown-append sets (shared_ids f.found) (shared_ids f.ends ++ shared_ids f.spent) found.known
    (AreKnown-append sets (shared_ids f.ends) (shared_ids f.spent) (findings_known compare_ends sets f.ends found.ends) (findings_known nat_cmp sets f.spent found.spent))
