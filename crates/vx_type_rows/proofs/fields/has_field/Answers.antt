use Rattle.std.proofs.Common.{◌∙◌}
use Rattle.vx_link.specs.Resolution.{resolve_field}
use Rattle.vx_type_rows.proofs.FieldRows.{field_is, field_is_none}
use Rattle.vx_type_rows.specs.Members.{is_static}
use Rattle.vx_type_rows.proofs.fields.has_field.Goals as goal

pub returns-in-Some : goal.returns-in-Some
returns-in-Some c =
    (rw c.is_static.ensures at c.agrees.ensures)
    ∙ field_is c.args.program.now (is_static c.args.access) (resolve_field c.args.program.now c.args.named.0 c.args.member.now.name.now c.args.member.now.descriptor.now) c.in-Some.field c.in-Some.ensures

pub returns-in-None : goal.returns-in-None
returns-in-None c =
    field_is_none c.args.program.now (is_static c.args.access) (resolve_field c.args.program.now c.args.named.0 c.args.member.now.name.now c.args.member.now.descriptor.now) c.in-None.ensures
