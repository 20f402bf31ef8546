use Rattle.std.proofs.Common.{ap, sym, ◌∙◌, arith}
use Rattle.vx_list.specs.Places.{item_or}
use Rattle.vx_linker.proofs.Layouts.{above_few, cell_instance}
use Rattle.vx_linker.proofs.layout.cell_of.Goals as goal

pub overflow_add-result : goal.overflow_add-result
overflow_add-result c =
    let above = c.number_at.ensures ∙ ap (λ xs. item_or xs c.args.field.now.class.0 0) c.requires.above in
    omega (arith, above, above_few c.args.program.now c.args.field.now.class.0 c.requires.few, c.fields_before.ensures.few, c.requires.classes)

pub returns : goal.returns
returns c =
    cell_instance c.args.program.now c.args.number.0 c.args.field.now c.number_at.result c.fields_before.result
    (sym c.if-is_static.false ∙ c.is_static.ensures) c.requires.field (c.number_at.ensures ∙ ap (λ xs. item_or xs c.args.field.now.class.0 0) c.requires.above) c.fields_before.ensures.count
