use Rattle.std.proofs.Common.{List, ap, ◌∙◌}
use Rattle.vx_linker.specs.Cells.{with_cells}
use Rattle.vx_link.specs.declared.program.LinkedField.{LinkedField}
use Rattle.vx_linker.proofs.Layouts.{fields_laid_out}
use Rattle.vx_linker.proofs.layout.with_layout.Goals as goal

pub returns : goal.returns
returns c =
    let p = c.args.program in
    let e = c.in_ok-fields.ensures ∙ ap (with_cells p.fields) (c.deref.ensures.value ∙ c.in_ok-cells.ensures) ∙ fields_laid_out p 0 p.fields in
    ap (λ (fs : List LinkedField). record p { fields = fs }) e
