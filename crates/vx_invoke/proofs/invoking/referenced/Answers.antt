use Rattle.std.proofs.Common.{◌∙◌, ap, sym}
use Rattle.std.specs.Prelude.{option_map}
use Rattle.vx_java.specs.Ids.{as_class}
use Rattle.vx_link.specs.ClassNames.{class_named}
use Rattle.vx_link.specs.Names.{member}
use Rattle.vx_link.specs.declared.program.LinkedClass.{LinkedClass}
use Rattle.vx_references.proofs.Tables.{class_there}
use Rattle.vx_invoke.proofs.invoking.referenced.Goals as goal

pub owner-owner-requires-clause-classes : goal.owner-owner-requires-clause-classes
owner-owner-requires-clause-classes g c = c.requires.bounded.classes

pub method_reference-requires-clause-classes : goal.method_reference-requires-clause-classes
method_reference-requires-clause-classes g c = c.requires.bounded.classes

pub method_reference-requires-clause-owner : goal.method_reference-requires-clause-owner
method_reference-requires-clause-owner g c =
    c.owner-owner.ensures
    ∙ ap (λ (x : LinkedClass). option_map as_class (class_named c.args.program.now (member x.pool c.args.index).class)) (sym (class_there c.args.program.now c.args.class.0 c.in-Some.class.now c.in-Some.ensures))

pub returns-in-Some : goal.returns-in-Some
returns-in-Some g c = rw (class_there c.args.program.now c.args.class.0 c.in-Some.class.now c.in-Some.ensures) at c.method_reference.ensures
