-- The row of an instruction of a field, by what is found of the field.
use Rattle.std.proofs.Common.{Bool, None, Option, Some, ap, false, refl, sym, true, ℕ, ◌∙◌, ◌≡◌}
use Rattle.vx_desc.specs.Descriptors.{field_type}
use Rattle.vx_desc.specs.declared.java_type.JavaType.{JavaType}
use Rattle.vx_link.specs.ClassNames.{class_named}
use Rattle.vx_link.specs.Names.{Member}
use Rattle.vx_link.specs.Resolution.{resolve_field}
use Rattle.vx_link.specs.declared.program.Program.{Program}
use Rattle.vx_java.specs.Ids.{as_class, as_field}
use Rattle.vx_references.proofs.Numbers.{class_none, class_some, field_none, field_some}
use Rattle.vx_type_rows.specs.Members.{accepted_row, access_row, class_has_field, field_agrees, is_accessed, is_static, typed_row}
use Rattle.vx_type_rows.specs.declared.fields.Access.{Access}
use Rattle.vx_value.specs.declared.ids.ClassId.{ClassId}
use Rattle.vx_value.specs.declared.ids.FieldId.{FieldId}
use Rattle.std.specs.Prelude.{option_map}
use Rattle.vx_types.specs.Rows.{if_accepted, if_agreeing, if_field, if_there, if_type, with_class, with_field}
use Rattle.vx_types.specs.Types.{type_of}
use Rattle.vx_types.specs.declared.types.Row.{Row}
use Rattle.vx_types.specs.declared.types.Row.TheVariants.{Ends, Refused}
use Rattle.vx_types.specs.declared.types.VerType.{VerType}

agreeing : (p : Program) (static : Bool) (row : Row) (o : Option ℕ) → field_agrees p static o ≡ true → row ≡ if_field p static o row
agreeing p static row None h = absurd cc
agreeing p static row (Some f) h = ap (λ b. if_agreeing b row) (sym h)

disagreeing : (p : Program) (static : Bool) (row : Row) (o : Option ℕ) → field_agrees p static o ≡ false → Ends ≡ if_field p static o row
disagreeing p static row None h = refl
disagreeing p static row (Some f) h = ap (λ b. if_agreeing b row) (sym h)

accessed : (p : Program) (m : Member) (static : Bool) (row : Row) → is_accessed p static m ≡ true → row ≡ with_class p m.class (λ named. if_field p static (resolve_field p named m.name m.descriptor) row)
accessed p m static row h = by (class_named p m.class) h
  where
    by : (o : Option ℕ) → class_has_field p static m o ≡ true → row ≡ if_there o (λ named. if_field p static (resolve_field p named m.name m.descriptor) row)
    by None h = absurd cc
    by (Some named) h = agreeing p static row (resolve_field p named m.name m.descriptor) h

unaccessed : (p : Program) (m : Member) (static : Bool) (row : Row) → is_accessed p static m ≡ false → Ends ≡ with_class p m.class (λ named. if_field p static (resolve_field p named m.name m.descriptor) row)
unaccessed p m static row h = by (class_named p m.class) h
  where
    by : (o : Option ℕ) → class_has_field p static m o ≡ false → Ends ≡ if_there o (λ named. if_field p static (resolve_field p named m.name m.descriptor) row)
    by None h = refl
    by (Some named) h = disagreeing p static row (resolve_field p named m.name m.descriptor) h

-- ---- the class and the field, by their numbers

pub class_has : (p : Program) (m : Member) (static : Bool) (o : Option ℕ) (class : ClassId) → Some class ≡ option_map as_class o → class_has_field p static m (Some class.0) ≡ class_has_field p static m o
class_has p m static o class e = sym (ap (class_has_field p static m) (class_some o class e))

pub class_has_none : (p : Program) (m : Member) (static : Bool) (o : Option ℕ) → None ≡ option_map as_class o → false ≡ class_has_field p static m o
class_has_none p m static o e = sym (ap (class_has_field p static m) (class_none o e))

pub field_is : (p : Program) (static : Bool) (o : Option ℕ) (field : FieldId) → Some field ≡ option_map as_field o → field_agrees p static (Some field.0) ≡ field_agrees p static o
field_is p static o field e = sym (ap (field_agrees p static) (field_some o field e))

pub field_is_none : (p : Program) (static : Bool) (o : Option ℕ) → None ≡ option_map as_field o → false ≡ field_agrees p static o
field_is_none p static o e = sym (ap (field_agrees p static) (field_none o e))

-- ---- the row

pub of_accessed : (p : Program) (access : Access) (m : Member) (t : VerType) → is_accessed p (is_static access) m ≡ true → access_row p access m t ≡ accepted_row p access m t
of_accessed p access m t h = accessed p m (is_static access) (access_row p access m t) h

pub of_unaccessed : (p : Program) (access : Access) (m : Member) (t : VerType) → is_accessed p (is_static access) m ≡ false → Ends ≡ accepted_row p access m t
of_unaccessed p access m t h = unaccessed p m (is_static access) (access_row p access m t) h

-- of a member by its bytes, and as it is named
abbrev pub row_with : Program → Access → Member → Row
row_with p access m = with_field p m (is_static access) (access_row p access m)

pub without_type : (p : Program) (access : Access) (m n : Member) → m ≡ n → None ≡ field_type m.descriptor → Refused ≡ row_with p access n
without_type p access m n same e =
    ap (λ (o : Option JavaType). if_type p m (is_static access) o (access_row p access m)) e ∙ ap (row_with p access) same

pub of_typed : (p : Program) (access : Access) (m n : Member) (t : JavaType) → m ≡ n → Some t ≡ field_type m.descriptor → typed_row p access m t ≡ row_with p access n
of_typed p access m n t same e =
    ap (λ (o : Option JavaType). if_type p m (is_static access) o (access_row p access m)) e ∙ ap (row_with p access) same

pub of_float : (p : Program) (access : Access) (m : Member) (t : JavaType) → None ≡ type_of p m.descriptor t → Ends ≡ typed_row p access m t
of_float p access m t f = ap (λ (o : Option VerType). if_accepted p m (is_static access) o (access_row p access m)) f

pub of_accepted : (p : Program) (access : Access) (m : Member) (t : JavaType) (v : VerType) → Some v ≡ type_of p m.descriptor t → accepted_row p access m v ≡ typed_row p access m t
of_accepted p access m t v f = ap (λ (o : Option VerType). if_accepted p m (is_static access) o (access_row p access m)) f
