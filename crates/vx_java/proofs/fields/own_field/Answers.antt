use Rattle.std.proofs.Common.{ap, option_map, ◌∙◌}
use Rattle.vx_java.proofs.OwnMembers.{fields_through, own_field_is}
use Rattle.vx_java.specs.Ids.{as_field}
use Rattle.vx_java.proofs.fields.own_field.Goals as goal

pub returns-in_err-field : goal.returns-in_err-field
returns-in_err-field c =
    let numbers = fields_through c.args.program.now c.args.class.0 c.fields_of.result.now c.fields_of-first.result c.in_ok-last.field-0.now c.fields_of.ensures c.fields_of-first.ensures c.in_ok-last.ensures.value in
    c.from_residual-in_err-field.ensures
    ∙ ap (option_map as_field)
    (c.in_err-field.ensures ∙ own_field_is c.args.program.now c.args.class.0 c.args.sought.now.0 c.args.sought.now.1 c.fields_of-first.result.first c.in_ok-last.field-0.now.0 numbers)

pub returns : goal.returns
returns c =
    let numbers = fields_through c.args.program.now c.args.class.0 c.fields_of.result.now c.fields_of-first.result c.in_ok-last.field-0.now c.fields_of.ensures c.fields_of-first.ensures c.in_ok-last.ensures.value in
    ap (option_map as_field)
    (c.in_ok-field.ensures ∙ own_field_is c.args.program.now c.args.class.0 c.args.sought.now.0 c.args.sought.now.1 c.fields_of-first.result.first c.in_ok-last.field-0.now.0 numbers)
