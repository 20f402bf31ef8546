use Rattle.std.proofs.Common.{◌∙◌, ◌+◌, ap, arith, cond, Some, ℕ, sym}
use Rattle.std.specs.Prelude.{◌&&◌}
use Rattle.vx_java.proofs.Chains.{find_from, find_step}
use Rattle.vx_java.specs.Initialisation.{blocks}
use Rattle.vx_link.specs.Hierarchy.{is_among, superinterfaces}
use Rattle.vx_link.specs.Parts.{class_count}
use Rattle.vx_java.proofs.initialisation.blocking_place.Goals as goal

pub loop-place-preserved : goal.loop-place-preserved
loop-place-preserved c =
    let p = c.args.program.now in
    let test = λ (i : ℕ). blocks p i && is_among i (superinterfaces p c.args.class.0) in
    let place = c.loop-place.place in
    c.loop-place.invariant
    ∙ find_step test place (class_count p) (omega arith)
    ∙ ap (λ b. cond b (Some place) (find_from test (place + 1) (class_count p))) (sym c.is_blocking.ensures ∙ c.if-is_blocking.false)
