-- The members of a class of a program.
use Rattle.std.proofs.Common.{◌≡◌, ◌∙◌, ℕ, List, Bool, Some, ◌-◌, ap, length, map, refl, subst, sym}
use Rattle.std.specs.Prelude.{find, slice_get}
use Rattle.vx_java.proofs.MemberNumbers.{finds_named, numbers_through}
use Rattle.vx_java.proofs.Walks.{has_signature as has_field_signature}
use Rattle.vx_java.specs.MemberNumbers.{is_method, numbers_between}
use Rattle.vx_link.specs.Members.{has_signature, numbers_of}
use Rattle.vx_link.specs.Parts.{class_at, fields_of, methods_of, no_field}
use Rattle.vx_link.specs.Resolution.{own_field, own_method}
use Rattle.vx_link.specs.declared.class_list.Run.{Run}
use Rattle.vx_link.specs.declared.program.LinkedField.{LinkedField}
use Rattle.vx_link.specs.declared.program.LinkedMethod.{LinkedMethod}
use Rattle.vx_link.specs.declared.program.Program.{Program}
use Rattle.vx_value.specs.declared.ids.FieldId.{FieldId}
use Rattle.vx_value.specs.declared.ids.MethodId.{MethodId}

abbrev pub signature_of_field : LinkedField → List ℕ × List ℕ
signature_of_field f = (f.name, f.descriptor)

abbrev pub signature_of_method : LinkedMethod → List ℕ × List ℕ
signature_of_method m = (m.name, m.descriptor)

-- the numbers of a class's members go through that of the last one
pub fields_through : (p : Program) (class : ℕ) (fields : List FieldId) (run : Run) (last : FieldId) → fields ≡ (class_at p class).fields → map (λ f. f.0) (class_at p class).fields ≡ numbers_of run
    → Some last ≡ slice_get fields (length fields - 1) → fields_of p class ≡ numbers_between run.first last.0
fields_through p class fields run last e numbers l =
    numbers_through (λ f. f.0) (class_at p class).fields run.first run.count last numbers (subst (λ xs. Some last ≡ slice_get xs (length xs - 1)) e l)

pub methods_through : (p : Program) (class : ℕ) (methods : List MethodId) (run : Run) (last : MethodId) → methods ≡ (class_at p class).methods → map (λ m. m.0) (class_at p class).methods ≡ numbers_of run
    → Some last ≡ slice_get methods (length methods - 1) → methods_of p class ≡ numbers_between run.first last.0
methods_through p class methods run last e numbers l =
    numbers_through (λ m. m.0) (class_at p class).methods run.first run.count last numbers (subst (λ xs. Some last ≡ slice_get xs (length xs - 1)) e l)

-- so they are searched for a field
pub own_field_is : (p : Program) (class : ℕ) (name descriptor : List ℕ) (first last : ℕ) → fields_of p class ≡ numbers_between first last
    → find (has_signature (map signature_of_field p.fields) name descriptor) (numbers_between first last) ≡ own_field p name descriptor class
own_field_is p class name descriptor first last numbers =
    finds_named signature_of_field no_field refl p.fields name descriptor (numbers_between first last) ∙ ap (find (has_field_signature p name descriptor)) (sym numbers)

-- and for a method that passes a test
pub own_method_is : (p : Program) (passes : LinkedMethod → Bool) (class : ℕ) (name descriptor : List ℕ) (first last : ℕ) → methods_of p class ≡ numbers_between first last
    → find (is_method p passes name descriptor) (numbers_between first last) ≡ own_method p passes name descriptor class
own_method_is p passes class name descriptor first last numbers = ap (find (is_method p passes name descriptor)) (sym numbers)
