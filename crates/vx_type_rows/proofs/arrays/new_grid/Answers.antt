use Rattle.std.proofs.Common.{ap, ◌∙◌}
use Rattle.std.specs.Prelude.{replicate}
use Rattle.vx_types.proofs.NameLaws.{class_missing, class_there}
use Rattle.vx_types.specs.Plain.{computes, int}
use Rattle.vx_types.specs.Types.{ref_of}
use Rattle.vx_type_rows.proofs.arrays.new_grid.Goals as goal

pub returns-in_ok-lengths-in-Some : goal.returns-in_ok-lengths-in-Some
returns-in_ok-lengths-in-Some c =
    c.computes_of.ensures ∙ ap (λ ws. computes ws c.in_ok-given-in-Some.given) c.in_ok-lengths-in-Some.ensures ∙ ap (computes (replicate c.args.dimensions int)) c.in_ok-given-in-Some.ensures
    ∙ class_there c.args.program.now c.args.name.now (λ n. computes (replicate c.args.dimensions int) (ref_of c.args.program.now c.args.name.now)) c.in-Some._class c.in-Some.ensures

pub returns-in-None : goal.returns-in-None
returns-in-None c = class_missing c.args.program.now c.args.name.now (λ n. computes (replicate c.args.dimensions int) (ref_of c.args.program.now c.args.name.now)) c.in-None.ensures
