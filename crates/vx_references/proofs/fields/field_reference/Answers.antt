use Rattle.std.proofs.Common.{◌∙◌, ap, sym}
use Rattle.std.specs.Prelude.{option_map}
use Rattle.vx_java.specs.Ids.{as_class}
use Rattle.vx_java.specs.Named.{in_bytes}
use Rattle.vx_link.specs.ClassNames.{class_named}
use Rattle.vx_link.specs.Names.{Member}
use Rattle.vx_references.proofs.FieldLaws.{disagrees, floating, found, no_class, no_field, no_type}
use Rattle.vx_references.proofs.fields.field_reference.Goals as goal

pub returns-in_default : goal.returns-in_default
returns-in_default c = no_type c.args.program.now c.args.pool.now c.args.index c.args.is_static (in_bytes c.member-reference.result) c.member-reference.ensures c.in_default.ensures

pub returns-in_default-sort_of : goal.returns-in_default-sort_of
returns-in_default-sort_of c = floating c.args.program.now c.args.pool.now c.args.index c.args.is_static (in_bytes c.member-reference.result) c.in-Some.field_type c.member-reference.ensures c.in-Some.ensures c.in_default-sort_of.ensures

pub returns-in_default-owner : goal.returns-in_default-owner
returns-in_default-owner c = no_class c.args.program.now c.args.pool.now c.args.index c.args.is_static (in_bytes c.member-reference.result) c.in-Some.field_type c.in-Some-sort_of._sort c.member-reference.ensures c.in-Some.ensures c.in-Some-sort_of.ensures (sym c.in_default-owner.is ∙ c.requires.owner ∙ ap (λ (m : Member). option_map as_class (class_named c.args.program.now m.class)) (sym c.member-reference.ensures))

pub returns-in_default-resolve_field : goal.returns-in_default-resolve_field
returns-in_default-resolve_field c = no_field c.args.program.now c.args.pool.now c.args.index c.args.is_static (in_bytes c.member-reference.result) c.in-Some.field_type c.in-Some-sort_of._sort c.in-Some-owner.named c.member-reference.ensures c.in-Some.ensures c.in-Some-sort_of.ensures (sym c.in-Some-owner.is ∙ c.requires.owner ∙ ap (λ (m : Member). option_map as_class (class_named c.args.program.now m.class)) (sym c.member-reference.ensures)) c.in_default-resolve_field.ensures

pub returns-then-not-agrees : goal.returns-then-not-agrees
returns-then-not-agrees c = disagrees c.args.program.now c.args.pool.now c.args.index c.args.is_static (in_bytes c.member-reference.result) c.in-Some.field_type c.in-Some-sort_of._sort c.in-Some-owner.named c.in-Some-resolve_field.field c.member-reference.ensures c.in-Some.ensures c.in-Some-sort_of.ensures (sym c.in-Some-owner.is ∙ c.requires.owner ∙ ap (λ (m : Member). option_map as_class (class_named c.args.program.now m.class)) (sym c.member-reference.ensures)) c.in-Some-resolve_field.ensures (sym c.agrees.ensures ∙ c.if-not-agrees.true)

pub returns : goal.returns
returns c = found c.args.program.now c.args.pool.now c.args.index c.args.is_static (in_bytes c.member-reference.result) c.in-Some.field_type c.in-Some-sort_of._sort c.in-Some-owner.named c.in-Some-resolve_field.field c.member-reference.ensures c.in-Some.ensures c.in-Some-sort_of.ensures (sym c.in-Some-owner.is ∙ c.requires.owner ∙ ap (λ (m : Member). option_map as_class (class_named c.args.program.now m.class)) (sym c.member-reference.ensures)) c.in-Some-resolve_field.ensures (sym c.agrees.ensures ∙ c.if-not-agrees.false)
