use Rattle.std.proofs.Common.{◌≡◌}
use Rattle.std.specs.Prelude.{◌&&◌}
use Rattle.std.specs.List.{range_with_len}
use Rattle.std.specs.Prelude.{find}
use Rattle.vx_java.proofs.Chains.{find_from}
use Rattle.vx_java.specs.Initialisation.{blocks}
use Rattle.vx_link.specs.Hierarchy.{is_among, superinterfaces}
use Rattle.vx_link.specs.Parts.{class_count}
use Rattle.vx_java.proofs.initialisation.blocking_place.Given as goal

abbrev pub invariant-loop-place : goal.invariant-loop-place
invariant-loop-place l =
    find (λ i. blocks l.program i && is_among i (superinterfaces l.program l.fn.class.0)) (range_with_len 0 (class_count l.program))
    ≡ find_from (λ i. blocks l.program i && is_among i (superinterfaces l.program l.fn.class.0)) l.place (class_count l.program)
