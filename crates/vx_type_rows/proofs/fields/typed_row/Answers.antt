use Rattle.std.proofs.Common.{sym, ◌∙◌}
use Rattle.std.proofs.lemmas.Result.{IfOk-weaker}
use Rattle.vx_java.specs.Named.{in_bytes}
use Rattle.vx_type_rows.proofs.FieldRows.{of_accepted, of_float}
use Rattle.vx_type_rows.proofs.fields.typed_row.Goals as goal

pub returns-in-Some : goal.returns-in-Some
returns-in-Some c =
    IfOk-weaker c.accepted_row.result _ _
    (λ row h. h ∙ of_accepted c.args.program.now c.args.access (in_bytes c.args.member.now) c.args.item.now c.in-Some.accepted (sym c.in-Some.is ∙ c.in_ok-found.ensures))
    c.accepted_row.ensures

pub returns-in-None : goal.returns-in-None
returns-in-None c = of_float c.args.program.now c.args.access (in_bytes c.args.member.now) c.args.item.now (sym c.in-None.is ∙ c.in_ok-found.ensures)
