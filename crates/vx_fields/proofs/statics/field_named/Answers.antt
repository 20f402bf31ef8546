use Rattle.std.proofs.Common.{◌∙◌, ap, refl, subst, sym}
use Rattle.std.specs.Prelude.{option_map}
use Rattle.vx_desc.specs.Descriptors.{element_at, field_of, type_at}
use Rattle.vx_java.specs.Ids.{as_class}
use Rattle.vx_link.specs.ClassNames.{class_named}
use Rattle.vx_link.specs.Names.{member}
use Rattle.vx_link.specs.Parts.{no_class}
use Rattle.vx_link.specs.declared.program.LinkedClass.{LinkedClass}
use Rattle.vx_references.specs.Fields.{IsFieldReference}
use Rattle.vx_references.specs.declared.fields.FieldReference.TheVariants.{NoType}
use Rattle.vx_families.proofs.ShortPools.{descriptor_of_member}
use Rattle.vx_references.proofs.FieldLaws.{no_type}
use Rattle.vx_references.proofs.Tables.{class_missing, class_there}
use Rattle.vx_fields.proofs.statics.field_named.Goals as goal

pub owner-owner-requires-clause-classes : goal.owner-owner-requires-clause-classes
owner-owner-requires-clause-classes g c = c.requires.bounded.classes

pub field_reference-requires-clause-descriptor : goal.field_reference-requires-clause-descriptor
field_reference-requires-clause-descriptor g c = rw (class_there c.args.program.now c.args.class.0 c.in-Some.class.now c.in-Some.ensures) (descriptor_of_member c.args.program.now c.args.class.0 c.args.index c.requires.bounded)

pub field_reference-requires-clause-owner : goal.field_reference-requires-clause-owner
field_reference-requires-clause-owner g c =
    c.owner-owner.ensures
    ∙ ap (λ (x : LinkedClass). option_map as_class (class_named c.args.program.now (member x.pool c.args.index).class)) (sym (class_there c.args.program.now c.args.class.0 c.in-Some.class.now c.in-Some.ensures))

pub returns-in-Some : goal.returns-in-Some
returns-in-Some g c = rw (class_there c.args.program.now c.args.class.0 c.in-Some.class.now c.in-Some.ensures) at c.field_reference.ensures

pub returns-in-None : goal.returns-in-None
unfolding element_at field_of type_at
returns-in-None g c =
    let P : LinkedClass → Type 0 = λ x. IsFieldReference c.args.program.now x.pool c.args.index c.args.is_static NoType in
    subst P (class_missing c.args.program.now c.args.class.0 c.in-None.ensures) (no_type c.args.program.now no_class.pool c.args.index c.args.is_static (member no_class.pool c.args.index) refl refl)
