use Rattle.std.proofs.Common.{[], ap, ◌∙◌, ◌∷◌}
use Rattle.std.proofs.lemmas.Result.{IfOk-weaker}
use Rattle.vx_types.proofs.NameLaws.{class_missing, class_there}
use Rattle.vx_types.specs.Plain.{computes, int}
use Rattle.vx_types.specs.Types.{arrays_over}
use Rattle.vx_type_rows.proofs.arrays.new_references.Goals as goal

pub returns-in_ok-given-in-Some : goal.returns-in_ok-given-in-Some
returns-in_ok-given-in-Some c =
    IfOk-weaker c.computes.result _ _
    (λ row h. h ∙ ap (computes (int ∷ [])) c.in_ok-given-in-Some.ensures
    ∙ class_there c.args.program.now c.args.name.now (λ n. computes (int ∷ []) (arrays_over c.args.program.now 1 c.args.name.now)) c.in-Some._class c.in-Some.ensures)
    c.computes.ensures

pub returns-in-None : goal.returns-in-None
returns-in-None c = class_missing c.args.program.now c.args.name.now (λ n. computes (int ∷ []) (arrays_over c.args.program.now 1 c.args.name.now)) c.in-None.ensures
