-- The core objects of a linked program are of the types of their classes' fields.
use Rattle.std.proofs.Common.{List, None, Option, Some, [], ap, arith, codes, false, length, not, refl, slice_get, sym, true, unwrap_or, zero, suc, ℕ, ℤ, ◌+◌, ◌<◌, ◌∙◌, ◌∷◌, ◌≡◌}
use Rattle.std.proofs.lemmas.Bool.{le-ltb}
use Rattle.std.specs.Prelude.{pos}
use Rattle.vx_class.specs.declared.class_file.ClassFile.{ClassFile}
use Rattle.vx_class.specs.declared.class_file.Field.{Field}
use Rattle.vx_java.specs.FirstObjects.{First, for_boolean, for_class, for_integer, for_main, for_stream, for_text, object_of_first, string_object, core_object}
use Rattle.vx_java.specs.Machine.{Int, Object, Text}
use Rattle.vx_kept_states.proofs.Throwables.{below_throwable, place_in, reaches_by}
use Rattle.vx_link.specs.ClassNames.{array_class, class_element, core_class, is_array}
use Rattle.vx_link.specs.CoreTable.{boolean_class, class_class, core_table, enum_class, integer_class, number_class, print_stream_class, string_builder_class, string_class, system_class, throwable_class}
use Rattle.vx_link.specs.Parts.{class_count}
use Rattle.vx_link.specs.Written.{WrittenClass, class_file}
use Rattle.vx_link.specs.declared.program.Program.{Program}
use Rattle.vx_list.specs.Places.{item_or}
use Rattle.vx_model.specs.declared.model.OptionField.{OptionField}
use Rattle.vx_sound.specs.Sound.{HasCoreObjects}
use Rattle.vx_sound.specs.Typed.{IsTypedObject}
use Rattle.vx_sound_objects.proofs.Chains.{HasChains}
use Rattle.vx_sound_objects.proofs.Cores.{IsBare, IsLinked, bare_object, bare_row, class_found, core_at}
use Rattle.vx_sound_objects.proofs.Objects.{IsOnly, IsSmallRow, boolean_type, first_core_cell, int_type, row_descriptor, row_static, second_core_cell, string_type, text_type, throwable_type, type_of_text, typed_object}
use Rattle.vx_types.specs.Types.{class_type}
use Rattle.vx_types.specs.declared.types.VerType.{VerType}
use Rattle.vx_types.specs.declared.types.VerType.TheVariants as is

-- the rows that values, instructions and native methods name
pub record HasRows (rows : List WrittenClass) : Type 0 where
  pub string : IsSmallRow rows "java/lang/String" 8 0 string_class
  pub builder : IsSmallRow rows "java/lang/StringBuilder" 9 0 string_builder_class
  pub class : IsSmallRow rows "java/lang/Class" 10 0 class_class
  pub stream : IsSmallRow rows "java/io/PrintStream" 11 0 print_stream_class
  pub system : IsSmallRow rows "java/lang/System" 12 0 system_class
  pub number : IsSmallRow rows "java/lang/Number" 13 0 number_class
  pub integer : IsSmallRow rows "java/lang/Integer" 14 13 integer_class
  pub boolean : IsSmallRow rows "java/lang/Boolean" 15 0 boolean_class
  pub enum : IsSmallRow rows "java/lang/Enum" 17 0 enum_class
  pub throwable : IsSmallRow rows "java/lang/Throwable" 18 0 throwable_class
  pub many : 18 < length rows
  pub wraps : reaches_by rows 8 18 (place_in rows (codes "java/lang/ExceptionInInitializerError")) ≡ true

pub core_rows : HasRows core_table
core_rows = record {
  string = record { here = record { at = refl; named = refl }; up = refl; less = omega arith };
  builder = record { here = record { at = refl; named = refl }; up = refl; less = omega arith };
  class = record { here = record { at = refl; named = refl }; up = refl; less = omega arith };
  stream = record { here = record { at = refl; named = refl }; up = refl; less = omega arith };
  system = record { here = record { at = refl; named = refl }; up = refl; less = omega arith };
  number = record { here = record { at = refl; named = refl }; up = refl; less = omega arith };
  integer = record { here = record { at = refl; named = refl }; up = refl; less = omega arith };
  boolean = record { here = record { at = refl; named = refl }; up = refl; less = omega arith };
  enum = record { here = record { at = refl; named = refl }; up = refl; less = omega arith };
  throwable = record { here = record { at = refl; named = refl }; up = refl; less = omega arith };
  many = omega arith;
  wraps = refl;
}

-- a field of a row by its place
abbrev own_at : WrittenClass → ℕ → Field
own_at row i = item_or (class_file row).fields i (record { flags = 0; name = 0; descriptor = 0; constant = 0 })

module _ (p : Program) (options : List OptionField) (classes : List ClassFile) (rows : List WrittenClass) (linked : IsLinked p options classes rows) (has : HasRows rows) (chains : HasChains p) where
  bare : IsBare p (length classes + 0)
  bare = bare_object p options classes rows linked chains

  bare_number : IsBare p (length classes + 13)
  bare_number = bare_row p options classes rows linked chains 13 0 number_class has.number.here.at has.number.up refl bare

  string_is : type_of_text p (codes "Ljava/lang/String;") ≡ class_type p (core_class p "java/lang/String")
  string_is =
      string_type p (length classes + 8) (class_found p options classes rows linked "java/lang/String" 8 has.string.here.named)
      ∙ ap (class_type p) (sym (core_at p options classes rows linked "java/lang/String" 8 has.string.here.named))

  throwable_is : type_of_text p (codes "Ljava/lang/Throwable;") ≡ class_type p (core_class p "java/lang/Throwable")
  throwable_is =
      throwable_type p (length classes + 18) (class_found p options classes rows linked "java/lang/Throwable" 18 has.throwable.here.named)
      ∙ ap (class_type p) (sym (core_at p options classes rows linked "java/lang/Throwable" 18 has.throwable.here.named))

  -- a row of one field
  one_field : (row : WrittenClass) (t : VerType) (first : Field) → (class_file row).fields ≡ first ∷ [] → type_of_text p (row_descriptor row first) ≡ t
      → IsOnly p options classes rows linked chains row t
  one_field row t first fields type = record {
    first = λ field there. ap (λ o. type_of_text p (row_descriptor row (unwrap_or o field))) (sym there ∙ ap (λ fs. slice_get fs 0) fields) ∙ type;
    others = λ own field there. absurd (none field (sym (ap (λ fs. slice_get fs (suc own)) fields) ∙ there));
  }
    where
      none : (field : Field) → ◌≡◌ {A = Option Field} None (Some field) → ⊥
      none field wrong = cc

  of_string : IsOnly p options classes rows linked chains string_class is.Top
  of_string = one_field string_class is.Top (own_at string_class 0) refl (text_type p)

  of_stream : IsOnly p options classes rows linked chains print_stream_class is.Int
  of_stream = one_field print_stream_class is.Int (own_at print_stream_class 0) refl (int_type p)

  of_integer : IsOnly p options classes rows linked chains integer_class is.Int
  of_integer = one_field integer_class is.Int (own_at integer_class 0) refl (int_type p)

  of_class : IsOnly p options classes rows linked chains class_class is.Top
  of_class = record { first = λ field there. absurd (none field there); others = λ own field there. absurd (none field there) }
    where
      none : (field : Field) → ◌≡◌ {A = Option Field} None (Some field) → ⊥
      none field wrong = cc

  of_boolean : IsOnly p options classes rows linked chains boolean_class is.Int
  of_boolean = record {
    first = λ field there. ap (λ o. type_of_text p (row_descriptor boolean_class (unwrap_or o field))) (sym there) ∙ boolean_type p;
    others = later;
  }
    where
      none : (field : Field) → ◌≡◌ {A = Option Field} None (Some field) → ⊥
      none field wrong = cc

      later : (own : ℕ) (field : Field) → slice_get (class_file boolean_class).fields (suc own) ≡ Some field → row_static boolean_class field ≡ true
      later zero field there = ap (λ o. row_static boolean_class (unwrap_or o field)) (sym there)
      later (suc zero) field there = ap (λ o. row_static boolean_class (unwrap_or o field)) (sym there)
      later (suc (suc own)) field there = absurd (none field there)

  pub typed_string : (heap : List Object) (units : List ℕ) → IsTypedObject p heap (string_object p units)
  typed_string heap units = typed_object p options classes rows linked chains "java/lang/String" 8 0 string_class has.string bare is.Top of_string heap (Text units ∷ []) refl

  pub typed_integer : (heap : List Object) (n : ℤ) → IsTypedObject p heap (core_object p "java/lang/Integer" (Int n ∷ []))
  typed_integer heap n = typed_object p options classes rows linked chains "java/lang/Integer" 14 13 integer_class has.integer bare_number is.Int of_integer heap (Int n ∷ []) refl

  pub core_objects : HasCoreObjects p
  core_objects = record {
    string = first_core_cell p options classes rows linked chains "java/lang/String" 8 0 string_class has.string bare (own_at string_class 0) is.Top refl refl (text_type p);
    builder = first_core_cell p options classes rows linked chains "java/lang/StringBuilder" 9 0 string_builder_class has.builder bare (own_at string_builder_class 0) is.Top refl refl (text_type p);
    name = first_core_cell p options classes rows linked chains "java/lang/Enum" 17 0 enum_class has.enum bare (own_at enum_class 0) (class_type p (core_class p "java/lang/String")) refl refl string_is;
    ordinal =
        second_core_cell p options classes rows linked chains "java/lang/Enum" 17 0 enum_class has.enum bare (own_at enum_class 0) (own_at enum_class 1) is.Int refl refl refl refl refl (int_type p);
    message = first_core_cell p options classes rows linked chains "java/lang/Throwable" 18 0 throwable_class has.throwable bare (own_at throwable_class 0) (class_type p (core_class p "java/lang/String")) refl refl string_is;
    cause =
        second_core_cell p options classes rows linked chains "java/lang/Throwable" 18 0 throwable_class has.throwable bare (own_at throwable_class 0) (own_at throwable_class 1)
        (class_type p (core_class p "java/lang/Throwable")) refl refl refl refl refl throwable_is;
    strings = typed_string;
    integers = typed_integer;
    wraps =
        let many = has.many in
        below_throwable p classes rows linked.behind 8 18 (omega (arith, many)) has.throwable.here.named "java/lang/ExceptionInInitializerError" has.wraps;
  }

  -- each first object
  pub typed_first : (heap : List Object) (x : First) → IsTypedObject p heap (object_of_first p x)
  typed_first heap (for_stream n) = typed_object p options classes rows linked chains "java/io/PrintStream" 11 0 print_stream_class has.stream bare is.Int of_stream heap (Int (pos n) ∷ []) refl
  typed_first heap (for_integer n) = typed_integer heap n
  typed_first heap (for_boolean n) = typed_object p options classes rows linked chains "java/lang/Boolean" 15 0 boolean_class has.boolean bare is.Int of_boolean heap (Int (pos n) ∷ []) refl
  typed_first heap (for_text units) = typed_string heap units
  typed_first heap (for_class name) = typed_object p options classes rows linked chains "java/lang/Class" 10 0 class_class has.class bare is.Top of_class heap [] refl
  typed_first heap for_main = record {
    size = λ array. refl;
    cells = λ array i less. absurd (omega (arith, less));
    fields = λ plain f few has_f. absurd (wrong (sym an_array ∙ plain));
  }
    where
      an_array : is_array p (array_class p 1 (class_element (core_class p "java/lang/String"))) ≡ true
      an_array = ap not (le-ltb (array_class p 1 (class_element (core_class p "java/lang/String"))) (class_count p) (omega arith))

      wrong : true ≡ false → ⊥
      wrong e = cc
