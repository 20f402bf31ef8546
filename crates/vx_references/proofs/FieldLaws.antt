-- How the row of an instruction of a field goes on, step by step.
use Rattle.std.proofs.Common.{◌≡◌, ℕ, Bool, true, false, refl, sym, ◌∙◌, ap, Some, None}
use Rattle.std.specs.Prelude.{is_some, option_map, ◌&&◌}
use Rattle.vx_desc.specs.Descriptors.{field_type}
use Rattle.vx_desc.specs.declared.java_type.JavaType.{JavaType}
use Rattle.vx_java.specs.Checks.{if_there, same_bool, sort_of, with_class}
use Rattle.vx_java.specs.Fields.{Found as FoundField, field_text, if_agreeing, if_field, if_sort, if_type, with_field}
use Rattle.vx_java.specs.Ids.{as_class, as_field}
use Rattle.vx_java.specs.Machine.{Here, Outcome, unsupported}
use Rattle.vx_java.specs.Operation.{class_word, field_word}
use Rattle.vx_java.specs.declared.operation.Sort.{Sort}
use Rattle.vx_link.specs.ClassNames.{class_named}
use Rattle.vx_link.specs.Names.{Member, member}
use Rattle.vx_link.specs.Parts.{is_static_field}
use Rattle.vx_link.specs.Resolution.{resolve_field}
use Rattle.vx_link.specs.declared.program.Program.{Program}
use Rattle.vx_pool.specs.declared.pool.Pool.{Pool}
use Rattle.vx_value.specs.declared.ids.ClassId.{ClassId}
use Rattle.vx_value.specs.declared.ids.FieldId.{FieldId}
use Rattle.vx_references.proofs.Numbers.{class_none, class_some, field_none, field_some}
use Rattle.vx_references.specs.Fields.{IsFieldReference, seeing}
use Rattle.vx_references.specs.declared.fields.FieldReference.TheVariants.{Found, NoType, Floating, NoClass, NoField, Disagrees}

pub no_type : (p : Program) (pool : Pool) (i : ℕ) (static : Bool) (m : Member) → m ≡ member pool i → None ≡ field_type m.descriptor → IsFieldReference p pool i static NoType
no_type p pool i static m e t = record {
  decides = λ h rest. ap (λ (n : Member). if_type (seeing p pool h) n static (field_type n.descriptor) rest) (sym e) ∙ ap (λ o. if_type (seeing p pool h) m static o rest) (sym t);
  sound = refl;
}

-- a field type that is there
typed : (p : Program) (pool : Pool) (i : ℕ) (static : Bool) (m : Member) (type : JavaType) (h : Here) (rest : FoundField → Outcome) → m ≡ member pool i → Some type ≡ field_type m.descriptor → with_field (seeing p pool h) i static rest ≡ if_sort (seeing p pool h) (sort_of type) (with_class (seeing p pool h) m.class (λ named. if_field (seeing p pool h) m static type named (resolve_field p named m.name m.descriptor) rest))
typed p pool i static m type h rest e t = ap (λ (n : Member). if_type (seeing p pool h) n static (field_type n.descriptor) rest) (sym e) ∙ ap (λ o. if_type (seeing p pool h) m static o rest) (sym t)

pub floating : (p : Program) (pool : Pool) (i : ℕ) (static : Bool) (m : Member) (type : JavaType) → m ≡ member pool i → Some type ≡ field_type m.descriptor → None ≡ sort_of type → IsFieldReference p pool i static Floating
floating p pool i static m type e t s = record {
  decides = λ h rest. typed p pool i static m type h rest e t ∙ ap (λ o. if_sort (seeing p pool h) o (with_class (seeing p pool h) m.class (λ named. if_field (seeing p pool h) m static type named (resolve_field p named m.name m.descriptor) rest))) (sym s);
  sound = refl;
}

-- a type that has a sort
sorted : (p : Program) (pool : Pool) (i : ℕ) (static : Bool) (m : Member) (type : JavaType) (sort : Sort) (h : Here) (rest : FoundField → Outcome) → m ≡ member pool i → Some type ≡ field_type m.descriptor → Some sort ≡ sort_of type → with_field (seeing p pool h) i static rest ≡ if_there (seeing p pool h) m.class (class_named p m.class) (λ named. if_field (seeing p pool h) m static type named (resolve_field p named m.name m.descriptor) rest)
sorted p pool i static m type sort h rest e t s = typed p pool i static m type h rest e t ∙ ap (λ o. if_sort (seeing p pool h) o (with_class (seeing p pool h) m.class (λ named. if_field (seeing p pool h) m static type named (resolve_field p named m.name m.descriptor) rest))) (sym s)

pub no_class : (p : Program) (pool : Pool) (i : ℕ) (static : Bool) (m : Member) (type : JavaType) (sort : Sort) → m ≡ member pool i → Some type ≡ field_type m.descriptor → Some sort ≡ sort_of type → None ≡ option_map as_class (class_named p m.class) → IsFieldReference p pool i static NoClass
no_class p pool i static m type sort e t s n = record {
  decides = λ h rest. sorted p pool i static m type sort h rest e t s ∙ ap (λ o. if_there (seeing p pool h) m.class o (λ named. if_field (seeing p pool h) m static type named (resolve_field p named m.name m.descriptor) rest)) (class_none (class_named p m.class) n) ∙ ap (λ (k : Member). unsupported (seeing p pool h) class_word k.class) e;
  sound = refl;
}

-- a class that is there
named_there : (p : Program) (pool : Pool) (i : ℕ) (static : Bool) (m : Member) (type : JavaType) (sort : Sort) (named : ClassId) (h : Here) (rest : FoundField → Outcome) → m ≡ member pool i → Some type ≡ field_type m.descriptor → Some sort ≡ sort_of type → Some named ≡ option_map as_class (class_named p m.class) → with_field (seeing p pool h) i static rest ≡ if_field (seeing p pool h) m static type named.0 (resolve_field p named.0 m.name m.descriptor) rest
named_there p pool i static m type sort named h rest e t s n = sorted p pool i static m type sort h rest e t s ∙ ap (λ o. if_there (seeing p pool h) m.class o (λ named. if_field (seeing p pool h) m static type named (resolve_field p named m.name m.descriptor) rest)) (class_some (class_named p m.class) named n)

pub no_field : (p : Program) (pool : Pool) (i : ℕ) (static : Bool) (m : Member) (type : JavaType) (sort : Sort) (named : ClassId) → m ≡ member pool i → Some type ≡ field_type m.descriptor → Some sort ≡ sort_of type → Some named ≡ option_map as_class (class_named p m.class) → None ≡ option_map as_field (resolve_field p named.0 m.name m.descriptor) → IsFieldReference p pool i static NoField
no_field p pool i static m type sort named e t s n f = record {
  decides = λ h rest. named_there p pool i static m type sort named h rest e t s n ∙ ap (λ o. if_field (seeing p pool h) m static type named.0 o rest) (field_none (resolve_field p named.0 m.name m.descriptor) f) ∙ ap (λ (k : Member). unsupported (seeing p pool h) field_word (field_text k)) e;
  sound = refl;
}

-- a field that is there
field_there : (p : Program) (pool : Pool) (i : ℕ) (static : Bool) (m : Member) (type : JavaType) (sort : Sort) (named : ClassId) (field : FieldId) (h : Here) (rest : FoundField → Outcome) → m ≡ member pool i → Some type ≡ field_type m.descriptor → Some sort ≡ sort_of type → Some named ≡ option_map as_class (class_named p m.class) → Some field ≡ option_map as_field (resolve_field p named.0 m.name m.descriptor) → with_field (seeing p pool h) i static rest ≡ if_agreeing (seeing p pool h) (same_bool static (is_static_field p field.0)) (record { named = named.0; field = field.0; type = type }) rest
field_there p pool i static m type sort named field h rest e t s n f = named_there p pool i static m type sort named h rest e t s n ∙ ap (λ o. if_field (seeing p pool h) m static type named.0 o rest) (field_some (resolve_field p named.0 m.name m.descriptor) field f)

pub disagrees : (p : Program) (pool : Pool) (i : ℕ) (static : Bool) (m : Member) (type : JavaType) (sort : Sort) (named : ClassId) (field : FieldId) → m ≡ member pool i → Some type ≡ field_type m.descriptor → Some sort ≡ sort_of type → Some named ≡ option_map as_class (class_named p m.class) → Some field ≡ option_map as_field (resolve_field p named.0 m.name m.descriptor) → same_bool static (is_static_field p field.0) ≡ false → IsFieldReference p pool i static Disagrees
disagrees p pool i static m type sort named field e t s n f a = record {
  decides = λ h rest. field_there p pool i static m type sort named field h rest e t s n f ∙ ap (λ b. if_agreeing (seeing p pool h) b (record { named = named.0; field = field.0; type = type }) rest) a;
  sound = refl;
}

both : (a b : Bool) → a ≡ true → b ≡ true → (a && b) ≡ true
both a b p q = rw (p, q) refl

pub found : (p : Program) (pool : Pool) (i : ℕ) (static : Bool) (m : Member) (type : JavaType) (sort : Sort) (named : ClassId) (field : FieldId) → m ≡ member pool i → Some type ≡ field_type m.descriptor → Some sort ≡ sort_of type → Some named ≡ option_map as_class (class_named p m.class) → Some field ≡ option_map as_field (resolve_field p named.0 m.name m.descriptor) → same_bool static (is_static_field p field.0) ≡ true → IsFieldReference p pool i static (Found named field type)
found p pool i static m type sort named field e t s n f a = record {
  decides = λ h rest. field_there p pool i static m type sort named field h rest e t s n f ∙ ap (λ b. if_agreeing (seeing p pool h) b (record { named = named.0; field = field.0; type = type }) rest) a;
  sound = both (same_bool static (is_static_field p field.0)) (is_some (sort_of type)) a (ap is_some (sym s));
}
