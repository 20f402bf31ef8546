-- The objects of the core classes: their cells are those of the fields of their classes, and of the fields' types.
use Rattle.std.proofs.Common.{Bool, List, Some, ap, arith, codes, false, length, map, not, refl, slice_get, subst, suc, sym, true, unwrap_or, zero, ℕ, ◌++◌, ◌+◌, ◌<◌, ◌∙◌, ◌≡◌}
use Prim.Native.String.{String}
use Rattle.std.proofs.lemmas.Option.{same_Some}
use Rattle.std.specs.Option.{option_and_then}
use Rattle.vx_class.specs.Members.{STATIC, has as has_flag}
use Rattle.vx_class.specs.declared.class_file.ClassFile.{ClassFile}
use Rattle.vx_class.specs.declared.class_file.Field.{Field}
use Rattle.vx_desc.specs.Descriptors.{element_at, field_of, field_type, type_at}
use Rattle.vx_desc.specs.Names.{is_class_name}
use Rattle.vx_java.specs.FirstObjects.{core_object}
use Rattle.vx_java.specs.Machine.{Object, Top, Value}
use Rattle.vx_kept_states.proofs.Throwables.{super_place}
use Rattle.vx_link.specs.ClassNames.{class_of_name, core_class, is_array}
use Rattle.vx_link.specs.Hierarchy.{is_among, superclasses}
use Rattle.vx_link.specs.Linked.{field_flags, linked_field}
use Rattle.vx_link.specs.Names.{utf8}
use Rattle.vx_link.specs.Parts.{field_at, has, is_static_field}
use Rattle.vx_link.specs.Tables.{names_of}
use Rattle.vx_link.specs.Written.{WrittenClass, class_file}
use Rattle.vx_link.specs.declared.program.LinkedField.{LinkedField}
use Rattle.vx_link.specs.declared.program.Program.{Program}
use Rattle.vx_list.specs.Places.{item_or}
use Rattle.vx_model.specs.declared.model.OptionField.{OptionField}
use Rattle.vx_sound.specs.Sound.{IsCoreCell}
use Rattle.vx_sound.specs.Typed.{IsTypedObject, has_field}
use Rattle.vx_sound.specs.Values.{type_of_field, type_of_value}
use Rattle.vx_sound_objects.proofs.Chains.{HasChains}
use Rattle.vx_sound_objects.proofs.Cores.{IsBare, IsLinked, IsRow, core_at, first_cell, no_array, own_alone, row_there, second_cell}
use Rattle.vx_sound_objects.proofs.Parts.{first_field}
use Rattle.vx_sound_objects.proofs.Programs.{IsOwnField, any_field, own_field_is, uncelled}
use Rattle.vx_types.proofs.Tests.{both, both_first, both_second}
use Rattle.vx_types.specs.Fits.{fits}
use Rattle.vx_types.specs.Types.{class_type, element_found, type_of}
use Rattle.vx_types.specs.declared.types.VerType.{VerType}
use Rattle.vx_types.specs.declared.types.VerType.TheVariants as is

-- ---- types of descriptors

abbrev pub type_of_text : Program → List ℕ → VerType
type_of_text p d = unwrap_or (option_and_then (type_of p d) (field_type d)) is.Top

pub text_type : (p : Program) → type_of_text p (codes "T") ≡ is.Top
unfolding element_at field_of is_class_name type_at
text_type p = refl

pub int_type : (p : Program) → type_of_text p (codes "I") ≡ is.Int
unfolding element_at field_of is_class_name type_at
int_type p = refl

pub boolean_type : (p : Program) → type_of_text p (codes "Z") ≡ is.Int
unfolding element_at field_of is_class_name type_at
boolean_type p = refl

found_type : (p : Program) (name : List ℕ) (c : ℕ) → class_of_name p name ≡ Some c → is.Ref 0 (element_found p name (class_of_name p name)) ≡ class_type p c
found_type p name c at = ap (λ o. is.Ref 0 (element_found p name o)) at

pub string_type : (p : Program) (c : ℕ) → class_of_name p (codes "java/lang/String") ≡ Some c → type_of_text p (codes "Ljava/lang/String;") ≡ class_type p c
unfolding element_at field_of is_class_name type_at
string_type p c at = found_type p (codes "java/lang/String") c at

pub throwable_type : (p : Program) (c : ℕ) → class_of_name p (codes "java/lang/Throwable") ≡ Some c → type_of_text p (codes "Ljava/lang/Throwable;") ≡ class_type p c
unfolding element_at field_of is_class_name type_at
throwable_type p c at = found_type p (codes "java/lang/Throwable") c at

pub stream_type : (p : Program) (c : ℕ) → class_of_name p (codes "java/io/PrintStream") ≡ Some c → type_of_text p (codes "Ljava/io/PrintStream;") ≡ class_type p c
unfolding element_at field_of is_class_name type_at
stream_type p c at = found_type p (codes "java/io/PrintStream") c at

pub boolean_class_type : (p : Program) (c : ℕ) → class_of_name p (codes "java/lang/Boolean") ≡ Some c → type_of_text p (codes "Ljava/lang/Boolean;") ≡ class_type p c
unfolding element_at field_of is_class_name type_at
boolean_class_type p c at = found_type p (codes "java/lang/Boolean") c at

-- ---- rows

-- a row of a class above which no class has fields
pub record IsSmallRow (rows : List WrittenClass) (name : String) (k above : ℕ) (row : WrittenClass) : Type 0 where
  pub here : IsRow rows name k row
  pub up : super_place rows k ≡ Some above
  pub less : k < length rows

-- whether a field of a row is static
abbrev pub row_static : WrittenClass → Field → Bool
row_static row f = has_flag (field_flags (class_file row) f.flags) STATIC

abbrev pub row_descriptor : WrittenClass → Field → List ℕ
row_descriptor row f = utf8 (class_file row).pool f.descriptor

module _ (p : Program) (options : List OptionField) (classes : List ClassFile) (rows : List WrittenClass) (linked : IsLinked p options classes rows) (chains : HasChains p) where
  -- a field of a row
  pub record IsRowField (k : ℕ) (row : WrittenClass) (f own : ℕ) (field : Field) : Type 0 where
    pub there : slice_get (class_file row).fields own ≡ Some field
    pub number : f ≡ first_field (classes ++ map class_file rows) (length classes + k) + own
    pub within : f < length p.fields
    pub is : uncelled (field_at p f) ≡ linked_field options (length classes + k) (class_file row) field

  pub row_field : (k own : ℕ) (row : WrittenClass) (field : Field) → slice_get rows k ≡ Some row → slice_get (class_file row).fields own ≡ Some field
      → IsRowField k row (first_field (classes ++ map class_file rows) (length classes + k) + own) own field
  row_field k own row field at there =
      let of = own_field_is p options (names_of (classes ++ map class_file rows)) (classes ++ map class_file rows) linked.are (length classes + k) (class_file row) own field (row_there p options classes rows linked k row at) there in
      record { there = there; number = refl; within = of.0; is = of.1 }

  pub field_of_row : (k : ℕ) (row : WrittenClass) (f : ℕ) → slice_get rows k ≡ Some row → f < length p.fields → (field_at p f).class.0 ≡ length classes + k
      → (own : ℕ) × (field : Field) × IsRowField k row f own field
  field_of_row k row f at few class =
      let of : IsOwnField p options (names_of (classes ++ map class_file rows)) (classes ++ map class_file rows) (length classes + k) f =
      subst (λ c. IsOwnField p options (names_of (classes ++ map class_file rows)) (classes ++ map class_file rows) c f) class
      (any_field p options (names_of (classes ++ map class_file rows)) (classes ++ map class_file rows) linked.are f few) in
      let same : of.class.file ≡ class_file row = same_Some of.class.file (class_file row) (sym of.class.there ∙ row_there p options classes rows linked k row at) in (
        of.own,
        of.field,
        record {
          there = ap (λ (file : ClassFile). slice_get file.fields of.own) (sym same) ∙ of.there;
          number = of.number;
          within = of.within;
          is = of.is ∙ ap (λ file. linked_field options (length classes + k) file of.field) same;
        },
      )

  field_static : (k : ℕ) (row : WrittenClass) (f own : ℕ) (field : Field) → IsRowField k row f own field → is_static_field p f ≡ row_static row field
  field_static k row f own field of = ap (λ (x : LinkedField). has STATIC x.flags) of.is

  field_class : (k : ℕ) (row : WrittenClass) (f own : ℕ) (field : Field) → IsRowField k row f own field → (field_at p f).class.0 ≡ length classes + k
  field_class k row f own field of = ap (λ (x : LinkedField). x.class.0) of.is

  pub row_type : (k : ℕ) (row : WrittenClass) (f own : ℕ) (field : Field) → IsRowField k row f own field → type_of_field p f ≡ type_of_text p (row_descriptor row field)
  row_type k row f own field of = ap (λ (x : LinkedField). type_of_text p x.descriptor) of.is

  -- ---- cells that instructions and native methods name

  core_cell : (name : String) (k above : ℕ) (row : WrittenClass) (small : IsSmallRow rows name k above row) (f own place : ℕ) (field : Field) (t : VerType) → IsRowField k row f own field
      → row_static row field ≡ false → type_of_text p (row_descriptor row field) ≡ t → (field_at p f).cell ≡ place → IsCoreCell p name place t
  core_cell name k above row small f own place field t of instance type cell = record {
    field = f;
    within = of.within;
    there = λ c among.
        both (not (is_static_field p f)) (is_among (field_at p f).class.0 (superclasses p c)) (ap not (field_static k row f own field of ∙ instance))
        (ap (λ d. is_among d (superclasses p c)) (field_class k row f own field of ∙ sym (core_at p options classes rows linked name k small.here.named)) ∙ among);
    cell = cell;
    type = row_type k row f own field of ∙ type;
  }

  pub first_core_cell : (name : String) (k above : ℕ) (row : WrittenClass) → IsSmallRow rows name k above row → IsBare p (length classes + above) → (field : Field) (t : VerType)
      → slice_get (class_file row).fields 0 ≡ Some field → row_static row field ≡ false → type_of_text p (row_descriptor row field) ≡ t → IsCoreCell p name 0 t
  first_core_cell name k above row small bare field t there instance type =
      let f : ℕ = first_field (classes ++ map class_file rows) (length classes + k) + 0 in
      let of = row_field k 0 row field small.here.at there in
      core_cell name k above row small f 0 0 field t of instance type
      (first_cell p options classes rows linked chains k above row small.here.at small.up bare f (omega arith) of.within (field_static k row f 0 field of ∙ instance) (field_class k row f 0 field of))

  pub second_core_cell : (name : String) (k above : ℕ) (row : WrittenClass) → IsSmallRow rows name k above row → IsBare p (length classes + above) → (first field : Field) (t : VerType)
      → length (class_file row).fields ≡ 2 → slice_get (class_file row).fields 0 ≡ Some first → row_static row first ≡ false
      → slice_get (class_file row).fields 1 ≡ Some field → row_static row field ≡ false → type_of_text p (row_descriptor row field) ≡ t → IsCoreCell p name 1 t
  second_core_cell name k above row small bare first field t two first_there first_instance there instance type =
      let g : ℕ = first_field (classes ++ map class_file rows) (length classes + k) + 0 in
      let f : ℕ = first_field (classes ++ map class_file rows) (length classes + k) + 1 in
      let first_of = row_field k 0 row first small.here.at first_there in
      let of = row_field k 1 row field small.here.at there in
      core_cell name k above row small f 1 1 field t of instance type
      (second_cell p options classes rows linked chains k above row small.here.at small.up bare two g f (omega arith) (omega arith) of.within
      (field_static k row g 0 first first_of ∙ first_instance) (field_static k row f 1 field of ∙ instance) (field_class k row f 1 field of))

  -- ---- whole objects

  -- an object of a row that has no field, or whose first field alone isn't static
  pub record IsOnly (row : WrittenClass) (t : VerType) : Type 0 where
    pub first : (field : Field) → slice_get (class_file row).fields 0 ≡ Some field → type_of_text p (row_descriptor row field) ≡ t
    pub others : (own : ℕ) (field : Field) → slice_get (class_file row).fields (suc own) ≡ Some field → row_static row field ≡ true

  pub typed_object : (name : String) (k above : ℕ) (row : WrittenClass) → IsSmallRow rows name k above row → IsBare p (length classes + above) → (t : VerType) → IsOnly row t
      → (heap : List Object) (cells : List Value) → fits p (type_of_value p heap (item_or cells 0 Top)) t ≡ true → IsTypedObject p heap (core_object p name cells)
  typed_object name k above row small bare t only heap cells fit = record {
    size = λ array. absurd (not_both (sym array ∙ plain));
    cells = λ array. absurd (not_both (sym array ∙ plain));
    fields = λ no_array f few has_f. of_field f few has_f;
  }
    where
      place : core_class p name ≡ length classes + k
      place = core_at p options classes rows linked name k small.here.named

      plain : is_array p (core_class p name) ≡ false
      plain = ap (is_array p) place ∙ no_array p options classes rows linked k small.less

      not_both : true ≡ false → ⊥
      not_both e = cc

      by_own : (f own : ℕ) (field : Field) → IsRowField k row f own field → is_static_field p f ≡ false
          → fits p (type_of_value p heap (item_or cells (field_at p f).cell Top)) (type_of_field p f) ≡ true
      by_own f zero field of instance =
          let number = of.number in
          let cell : (field_at p f).cell ≡ 0 =
          first_cell p options classes rows linked chains k above row small.here.at small.up bare f (omega (arith, number)) of.within instance (field_class k row f 0 field of) in
          ap (λ n. fits p (type_of_value p heap (item_or cells n Top)) (type_of_field p f)) cell
          ∙ ap (fits p (type_of_value p heap (item_or cells 0 Top))) (row_type k row f 0 field of ∙ only.first field of.there)
          ∙ fit
      by_own f (suc own) field of instance = absurd (not_both (sym (only.others own field of.there) ∙ sym (field_static k row f (suc own) field of) ∙ instance))

      instance_of : (b : Bool) → not b ≡ true → b ≡ false
      instance_of true e = cc
      instance_of false e = refl

      of_field : (f : ℕ) → f < length p.fields → has_field p (core_class p name) f ≡ true
          → fits p (type_of_value p heap (item_or cells (field_at p f).cell Top)) (type_of_field p f) ≡ true
      of_field f few has_f =
          let among : is_among (field_at p f).class.0 (superclasses p (length classes + k)) ≡ true =
          ap (λ c. is_among (field_at p f).class.0 (superclasses p c)) (sym place)
          ∙ both_second (not (is_static_field p f)) (is_among (field_at p f).class.0 (superclasses p (core_class p name))) has_f in
          let of = field_of_row k row f small.here.at few (own_alone p options classes rows linked chains k above f small.up bare few among) in
          by_own f of.0 of.1 of.2
          (instance_of (is_static_field p f) (both_first (not (is_static_field p f)) (is_among (field_at p f).class.0 (superclasses p (core_class p name))) has_f))
