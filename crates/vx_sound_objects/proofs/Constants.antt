-- The constants and the defaults of fields are of the fields' types.
use Rattle.std.proofs.Common.{All, Bool, List, None, Option, Some, [], ap, codes, false, inl, inr, map, option_map, refl, slice_get, subst, suc, sym, true, unwrap_or, zero, ℕ, ◌++◌, ◌+◌, ◌⊎◌, ◌∙◌, ◌∷◌, ◌≡◌}
use Rattle.std.proofs.lemmas.Option.{get_or_from_slice_get, slice_get_within}
use Rattle.std.proofs.lemmas.Slice.Eq.{bytes_eq-Decides}
use Rattle.std.specs.Option.{option_and_then}
use Rattle.std.specs.Prelude.{bytes_eq, ◌&&◌, ◌==◌, ◌||◌}
use Rattle.vx_class.specs.File.{EachBehind, FieldHolds, Holds}
use Rattle.vx_class.specs.Members.{fits_type, is_constant_for, is_literal, is_number_for}
use Rattle.vx_class.specs.declared.class_file.ClassFile.{ClassFile}
use Rattle.vx_class.specs.declared.class_file.Field.{Field}
use Rattle.vx_pool.specs.Lookups.{entry_of}
use Rattle.vx_desc.specs.Descriptors.{field_type}
use Rattle.vx_desc.specs.declared.java_type.Base.{Base}
use Rattle.vx_desc.specs.declared.java_type.Base.TheVariants as base
use Rattle.vx_desc.specs.declared.java_type.JavaType.{JavaType}
use Rattle.vx_java.specs.Checks.{sort_of_base}
use Rattle.vx_java.specs.FirstObjects.{constant_of, default_of_base, default_of_field, literal_object}
use Rattle.vx_java.specs.Machine.{Null, Object, Ref}
use Rattle.vx_java.specs.declared.operation.Sort.TheVariants as sort
use Rattle.vx_link.specs.Names.{utf8}
use Rattle.vx_link.specs.Written.{WrittenClass, WrittenField, class_file, field_files, fields_at}
use Rattle.vx_link.specs.declared.program.Program.{Program}
use Rattle.vx_pool.specs.declared.pool.Entry.{Entry}
use Rattle.vx_pool.specs.declared.pool.Entry.TheVariants as entry
use Rattle.vx_pool.specs.declared.pool.Pool.{Pool}
use Rattle.vx_sound.specs.Values.{type_of_value}
use Rattle.vx_sound_objects.proofs.Lists.{parted, unmapped}
use Rattle.vx_sound_objects.proofs.Objects.{type_of_text}
use Rattle.vx_types.proofs.Tests.{both_first, both_second, either}
use Rattle.vx_types.specs.Fits.{fits}
use Rattle.vx_types.specs.Types.{ref_of_base, type_of, type_of_sort}
use Rattle.vx_types.specs.declared.types.VerType.TheVariants as is

-- ---- defaults

null_fits : (p : Program) (d : List ℕ) (t : JavaType) (b : Base) → fits p is.Null (ref_of_base p 0 d t b) ≡ true
null_fits p d t base.Class = refl
null_fits p d t _ = refl

base_default : (p : Program) (heap : List Object) (d : List ℕ) (t : JavaType) (b : Base) → fits p (type_of_value p heap (default_of_base b)) (unwrap_or (option_map (type_of_sort p d t) (sort_of_base b)) is.Top) ≡ true
base_default p heap d t base.Float = refl
base_default p heap d t base.Double = refl
base_default p heap d t base.Long = refl
base_default p heap d t base.Class = null_fits p d t t.base
base_default p heap d t _ = refl

typed_default : (p : Program) (heap : List Object) (d : List ℕ) (t : JavaType) (scalar : Bool)
    → fits p (type_of_value p heap (elim scalar [ true ↦ default_of_base t.base | false ↦ Null ]))
    (unwrap_or (option_map (type_of_sort p d t) (elim scalar [ true ↦ sort_of_base t.base | false ↦ Some sort.Reference ])) is.Top) ≡ true
typed_default p heap d t true = base_default p heap d t t.base
typed_default p heap d t false = null_fits p d t t.base

pub default_fits : (p : Program) (heap : List Object) (d : List ℕ) → fits p (type_of_value p heap (default_of_field (field_type d))) (type_of_text p d) ≡ true
default_fits p heap d = by (field_type d)
  where
    by : (o : Option JavaType) → fits p (type_of_value p heap (default_of_field o)) (unwrap_or (option_and_then (type_of p d) o) is.Top) ≡ true
    by None = refl
    by (Some t) = typed_default p heap d t (t.dimensions == 0)

-- ---- constants

number_fits : (p : Program) (heap : List Object) (pool : Pool) (d : List ℕ) (t : JavaType) (b : Base) (e : Option Entry) → is_number_for b e ≡ true
    → fits p (type_of_value p heap (constant_of p pool e)) (unwrap_or (option_map (type_of_sort p d t) (sort_of_base b)) is.Top) ≡ true
number_fits p heap pool d t base.Double e is = refl
number_fits p heap pool d t base.Float e is = refl
number_fits p heap pool d t base.Class e is = cc
number_fits p heap pool d t base.Long (Some (entry.Long n)) is = refl
number_fits p heap pool d t base.Long _ is = cc
number_fits p heap pool d t base.Int (Some (entry.Integer n)) is = refl
number_fits p heap pool d t base.Int _ is = cc
number_fits p heap pool d t base.Short (Some (entry.Integer n)) is = refl
number_fits p heap pool d t base.Short _ is = cc
number_fits p heap pool d t base.Char (Some (entry.Integer n)) is = refl
number_fits p heap pool d t base.Char _ is = cc
number_fits p heap pool d t base.Byte (Some (entry.Integer n)) is = refl
number_fits p heap pool d t base.Byte _ is = cc
number_fits p heap pool d t base.Bool (Some (entry.Integer n)) is = refl
number_fits p heap pool d t base.Bool _ is = cc

-- a text's object is of the type of String
abbrev pub TextsFit : Program → List Object → Pool → Option Entry → Type 0
TextsFit p heap pool e = (i : ℕ) → e ≡ Some (entry.Text i) → fits p (type_of_value p heap (Ref (literal_object p pool (entry.Text i)))) (type_of_text p (codes "Ljava/lang/String;")) ≡ true

literal_fits : (p : Program) (heap : List Object) (pool : Pool) (e : Option Entry) → TextsFit p heap pool e → is_literal e ≡ true
    → fits p (type_of_value p heap (constant_of p pool e)) (type_of_text p (codes "Ljava/lang/String;")) ≡ true
literal_fits p heap pool (Some (entry.Text i)) texts is = texts i refl
literal_fits p heap pool _ texts is = cc

pub constant_fits : (p : Program) (heap : List Object) (pool : Pool) (d : List ℕ) (e : Option Entry) → TextsFit p heap pool e → is_constant_for d e ≡ true
    → fits p (type_of_value p heap (constant_of p pool e)) (type_of_text p d) ≡ true
constant_fits p heap pool d e texts lawful = by (field_type d) refl lawful
  where
    by_kind : (t : JavaType) → field_type d ≡ Some t → (scalar : Bool) → (t.dimensions == 0) ≡ scalar → (((scalar && is_number_for t.base e) ≡ true) ⊎ ((is_literal e && bytes_eq d (codes "Ljava/lang/String;")) ≡ true))
        → fits p (type_of_value p heap (constant_of p pool e)) (type_of_text p d) ≡ true
    by_kind t type scalar plain (inr literal) =
        ap (λ d. fits p (type_of_value p heap (constant_of p pool e)) (type_of_text p d))
        ((bytes_eq-Decides d (codes "Ljava/lang/String;")).0 (both_second (is_literal e) (bytes_eq d (codes "Ljava/lang/String;")) literal))
        ∙ literal_fits p heap pool e texts (both_first (is_literal e) (bytes_eq d (codes "Ljava/lang/String;")) literal)
    by_kind t type false plain (inl number) = cc
    by_kind t type true plain (inl number) =
        ap (λ o. fits p (type_of_value p heap (constant_of p pool e)) (unwrap_or (option_and_then (type_of p d) o) is.Top)) type
        ∙ ap (λ b. fits p (type_of_value p heap (constant_of p pool e)) (unwrap_or (option_map (type_of_sort p d t) (elim b [ true ↦ sort_of_base t.base | false ↦ Some sort.Reference ])) is.Top)) plain
        ∙ number_fits p heap pool d t t.base e number

    by : (o : Option JavaType) → field_type d ≡ o → fits_type d e o ≡ true → fits p (type_of_value p heap (constant_of p pool e)) (type_of_text p d) ≡ true
    by None type fitting = cc
    by (Some t) type fitting = by_kind t type (t.dimensions == 0) refl (either (t.dimensions == 0 && is_number_for t.base e) (is_literal e && bytes_eq d (codes "Ljava/lang/String;")) fitting)

-- ---- the constants of class files

each_at : (pool : Pool) (front fields : List Field) (i : ℕ) (f : Field) → EachBehind (FieldHolds pool) front fields → slice_get fields i ≡ Some f → (before : List Field) × FieldHolds pool before f
each_at pool front [] i f holds there = cc
each_at pool front (g ∷ fields) zero f holds there = (front, subst (FieldHolds pool front) (ap (λ o. unwrap_or o g) there) holds.0)
each_at pool front (g ∷ fields) (suc i) f holds there = each_at pool (front ++ g ∷ []) fields i f holds.1 there

written_constant : (at : ℕ) (fields : List WrittenField) (i : ℕ) (f : Field) → slice_get (field_files at fields) i ≡ Some f → f.constant ≡ 0
written_constant at [] i f there = cc
written_constant at (g ∷ fields) zero f there = ap (λ o. (unwrap_or o f).constant) (sym there)
written_constant at (g ∷ fields) (suc i) f there = written_constant (at + 2) fields i f there

-- no constant, or one of the field's type
abbrev pub is_lawful_constant : Pool → Field → Bool
is_lawful_constant pool f = f.constant == 0 || is_constant_for (utf8 pool f.descriptor) (entry_of pool f.constant)

pub lawful_constant : (classes : List ClassFile) (rows : List WrittenClass) → All Holds classes → (c : ℕ) (file : ClassFile) → slice_get (classes ++ map class_file rows) c ≡ Some file
    → (i : ℕ) (f : Field) → slice_get file.fields i ≡ Some f → is_lawful_constant file.pool f ≡ true
lawful_constant classes rows holds c file there i f own = elim (parted classes (map class_file rows) c file there) [
  | inl here ↦ read here
  | inr later ↦ written later.0 later.2
]
  where
    read : slice_get classes c ≡ Some file → is_lawful_constant file.pool f ≡ true
    read here =
        let file_holds : Holds file = subst Holds (get_or_from_slice_get classes c file file here) (holds c file (slice_get_within classes c file here)) in
        let f_holds = (each_at file.pool [] file.fields i f file_holds.fields own).1 in
        ap (λ o. f.constant == 0 || is_constant_for (unwrap_or o []) (entry_of file.pool f.constant)) f_holds.is_descriptor ∙ f_holds.constant

    written : (k : ℕ) → slice_get (map class_file rows) k ≡ Some file → is_lawful_constant file.pool f ≡ true
    written k at =
        let found = unmapped class_file rows k file at in
        let zero_constant : f.constant ≡ 0 =
        written_constant (fields_at found.0) found.0.fields i f (ap (λ (file : ClassFile). slice_get file.fields i) found.2 ∙ own) in
        ap (λ n. n == 0 || is_constant_for (utf8 file.pool f.descriptor) (entry_of file.pool n)) zero_constant
