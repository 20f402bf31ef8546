use Rattle.std.proofs.Common.{sym}
use Rattle.vx_effects.proofs.CopyRows.{components_are, no_components}
use Rattle.vx_effects.proofs.copying.components_of.Goals as goal

pub returns-then-not-has_reference_components : goal.returns-then-not-has_reference_components
returns-then-not-has_reference_components c = no_components c.args.program.now c.args.class (sym c.if-not-has_reference_components.ensures)

pub returns : goal.returns
returns c = components_are c.args.program.now c.args.class c.component_of.result (sym c.if-not-has_reference_components.ensures) c.component_of.ensures
