use Rattle.std.proofs.Common.{ap, map, subst, sym, ◌∙◌}
use Rattle.vx_linker.specs.Cells.{with_cells}
use Rattle.vx_link.specs.MemberKeys.{AreKeys}
use Rattle.vx_linker.proofs.Layouts.{same_signatures, signature_of_field}
use Rattle.vx_linker.proofs.layout.laid_out.Goals as goal

pub from_parts-fields-requires : goal.from_parts-fields-requires
from_parts-fields-requires c =
    subst (λ s. AreKeys s c.into_parts-fields.result.1)
    (sym
    (ap (map signature_of_field) (c.of.ensures ∙ c.in_ok-laid_out.ensures)
    ∙ same_signatures c.into_parts-fields.result.0.items c.args.cells.now
    ∙ ap (map signature_of_field) c.into_parts-fields.ensures.members))
    c.into_parts-fields.ensures.keys

pub returns : goal.returns
returns c = c.from_parts-fields.ensures ∙ c.of.ensures ∙ c.in_ok-laid_out.ensures ∙ ap (λ fs. with_cells fs c.args.cells.now) c.into_parts-fields.ensures.members
