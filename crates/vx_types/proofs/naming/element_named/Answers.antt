use Rattle.std.proofs.Common.{ap, ◌∙◌}
use Rattle.vx_types.proofs.NameLaws.{element_missing, element_there}
use Rattle.vx_types.specs.declared.types.ElementType.TheVariants.{Missing}
use Rattle.vx_types.proofs.naming.element_named.Goals as goal

pub returns-in-Some : goal.returns-in-Some
returns-in-Some c = c.element_of_class.ensures ∙ element_there c.args.program.now c.args.name.now c.in-Some.class c.in-Some.ensures

pub returns-in_ok-of-in-None : goal.returns-in_ok-of-in-None
returns-in_ok-of-in-None c = ap Missing c.in_ok-of-in-None.ensures ∙ element_missing c.args.program.now c.args.name.now c.in-None.ensures
