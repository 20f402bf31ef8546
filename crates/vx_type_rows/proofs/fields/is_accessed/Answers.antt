use Rattle.std.proofs.Common.{◌∙◌}
use Rattle.vx_java.specs.Named.{in_bytes}
use Rattle.vx_link.specs.ClassNames.{class_named}
use Rattle.vx_type_rows.proofs.FieldRows.{class_has, class_has_none}
use Rattle.vx_type_rows.specs.Members.{is_static}
use Rattle.vx_type_rows.proofs.fields.is_accessed.Goals as goal

pub returns-in-Some : goal.returns-in-Some
returns-in-Some c =
    c.has_field.ensures
    ∙ class_has c.args.program.now (in_bytes c.args.member.now) (is_static c.args.access) (class_named c.args.program.now c.args.member.now.class.now) c.in-Some.named c.in-Some.ensures

pub returns-in-None : goal.returns-in-None
returns-in-None c = class_has_none c.args.program.now (in_bytes c.args.member.now) (is_static c.args.access) (class_named c.args.program.now c.args.member.now.class.now) c.in-None.ensures
