use Rattle.std.proofs.Common.{sym, ◌∙◌}
use Rattle.std.proofs.lemmas.Result.{IfOk-weaker}
use Rattle.vx_java.specs.Named.{in_bytes}
use Rattle.vx_type_rows.proofs.FieldRows.{of_accessed, of_unaccessed}
use Rattle.vx_type_rows.proofs.fields.accepted_row.Goals as goal

pub returns-then-is_accessed : goal.returns-then-is_accessed
returns-then-is_accessed c =
    IfOk-weaker c.access_row.result _ _
    (λ row h. h ∙ of_accessed c.args.program.now c.args.access (in_bytes c.args.member.now) c.args.item (sym c.is_accessed.ensures ∙ c.if-is_accessed.true))
    c.access_row.ensures

pub returns : goal.returns
returns c = of_unaccessed c.args.program.now c.args.access (in_bytes c.args.member.now) c.args.item (sym c.is_accessed.ensures ∙ c.if-is_accessed.false)
