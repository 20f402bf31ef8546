use Rattle.std.proofs.Common.{sym, ◌∙◌}
use Rattle.std.proofs.lemmas.Result.{IfOk-weaker}
use Rattle.vx_java.specs.Named.{in_bytes}
use Rattle.vx_link.specs.Names.{member}
use Rattle.vx_type_rows.proofs.FieldRows.{of_typed, without_type}
use Rattle.vx_types.specs.Rows.{pool_of}
use Rattle.vx_type_rows.proofs.fields.field_row.Goals as goal

pub returns-in-None : goal.returns-in-None
returns-in-None c =
    without_type c.args.program.now c.args.access (in_bytes c.member_at-member.result) (member (pool_of c.args.program.now c.args.method.0) c.args.index) c.member_at-member.ensures.value (sym c.in-None.is ∙ c.field_type.ensures)

pub returns-in-Some : goal.returns-in-Some
returns-in-Some c =
    IfOk-weaker c.typed_row.result _ _
    (λ row h. h ∙ of_typed c.args.program.now c.args.access (in_bytes c.member_at-member.result) (member (pool_of c.args.program.now c.args.method.0) c.args.index) c.in-Some.item
    c.member_at-member.ensures.value (sym c.in-Some.is ∙ c.field_type.ensures))
    c.typed_row.ensures
