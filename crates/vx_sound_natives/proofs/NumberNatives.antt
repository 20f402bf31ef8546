-- The native methods of Number, Integer, Boolean and Math, and the last ones of System.
use Rattle.std.proofs.Common.{Bool, List, None, Option, Some, [], false, negsuc, pos, refl, true, ℤ, ◌++◌, ◌∷◌, ◌≡◌, ◌≤◌}
use Rattle.std.specs.Int.{int_max, int_min}
use Rattle.std.specs.Prelude.{int_le, ◌&&◌}
use Rattle.vx_java.specs.FirstObjects.{core_object, first_boolean, first_integer}
use Rattle.vx_java.specs.Library.{absolute_int, absolute_long, boolean_to_string, boolean_value_of, compare_numbers, exit, if_in_range, integer_compare, integer_int_value, integer_long_value, integer_parse, integer_to_string, integer_to_string_of, integer_value_of, line_separator, not_a_number, of_ints, of_longs, same_number, signed_value}
use Rattle.vx_java.specs.Machine.{Here, Int, Ref, Value, go, push_new, when}
use Rattle.vx_java.specs.Texts.{answer_int, object_init, text_of_object}
use Rattle.vx_sound.proofs.Sites.{AtSite, Typed}
use Rattle.vx_sound.specs.Typed.{Typings}
use Rattle.vx_sound_natives.proofs.Known.{Known, either_typed, knows}
use Rattle.vx_sound_natives.proofs.Results.{Leads, bool_back, class_is, first_back, int_back, long_back, new_back, no_reference, nothing_back, raised_back, text_back}
use Rattle.vx_sound_natives.proofs.StreamNatives.{any_object}
use Rattle.vx_sound_natives.proofs.TextNatives.{text}
use Rattle.vx_sound_natives.proofs.ValueKinds.{Kind, a_bool, a_long, an_int, an_object}
use Rattle.vx_value.specs.Arithmetic.{natural}

module _ (typings : Typings) (h : Here) (site : AtSite typings h) (rest : List Value) where
  pub integer_back : Leads typings h rest (Some (an_object "java/lang/Integer")) → (n : ℤ) → Typed typings h (integer_value_of h (Int n ∷ []) rest)
  integer_back on n = by (int_le (negsuc 127) n && int_le n (pos 127)) refl
    where
      by : (b : Bool) → (int_le (negsuc 127) n && int_le n (pos 127)) ≡ b
          → Typed typings h (when b (go h (Ref (first_integer n) ∷ rest)) (push_new h (core_object h.program "java/lang/Integer" (Int n ∷ [])) rest))
      by true few = first_back typings h site rest "java/lang/Integer" refl on (first_integer n) (site.sound.first.integers n few)
      by false many =
          new_back typings h site rest (an_object "java/lang/Integer") on (core_object h.program "java/lang/Integer" (Int n ∷ [])) (class_is typings h site rest "java/lang/Integer" refl)
          (site.sound.objects.integers (h.state.heap ++ (core_object h.program "java/lang/Integer" (Int n ∷ []) ∷ [])) n)

  pub no_number : Typed typings h (not_a_number h)
  no_number = raised_back typings h site rest "java/lang/NumberFormatException" refl

  pub range_back : Leads typings h rest (Some an_int) → (n : Option ℤ) → Typed typings h (if_in_range h rest n)
  range_back on None = no_number
  range_back on (Some n) =
      either_typed typings h (int_le (negsuc 2147483647) n && int_le n (pos 2147483647)) (answer_int h rest n) (not_a_number h) (int_back typings h site rest on n) no_number

  pub boolean_back : Leads typings h rest (Some (an_object "java/lang/Boolean")) → (n : ℤ) → natural n ≤ 1 → Typed typings h (boolean_value_of h (Int n ∷ []) rest)
  boolean_back on n small = first_back typings h site rest "java/lang/Boolean" refl on (first_boolean (natural n)) (site.sound.first.booleans (natural n) small)

-- ---- the tables

unfoldable pub system_natives : List Known
system_natives =
    knows exit None (an_int ∷ []) None (λ typings h site rest on n. refl)
    ∷ knows line_separator None [] (Some text) (λ typings h site rest on. text_back typings h site rest on (10 ∷ []))
    ∷ knows object_init (Some "java/lang/Number") [] None (λ typings h site rest on r at. nothing_back typings h site rest on)
    ∷ []

abbrev integer : Kind
integer = an_object "java/lang/Integer"

abbrev boolean : Kind
boolean = an_object "java/lang/Boolean"

unfoldable pub integer_natives : List Known
integer_natives =
    knows integer_value_of None (an_int ∷ []) (Some integer) (λ typings h site rest on n. integer_back typings h site rest on n)
    ∷ knows integer_parse None (text ∷ []) (Some an_int) (λ typings h site rest on. (no_number typings h site rest, λ s there. range_back typings h site rest on (signed_value (text_of_object h s))))
    ∷ knows integer_to_string_of None (an_int ∷ []) (Some text) (λ typings h site rest on n. text_back typings h site rest on _)
    ∷ knows integer_compare None (an_int ∷ an_int ∷ []) (Some an_int) (λ typings h site rest on a b. int_back typings h site rest on _)
    ∷ knows integer_int_value (Some "java/lang/Integer") [] (Some an_int) (λ typings h site rest on r at. int_back typings h site rest on _)
    ∷ knows integer_long_value (Some "java/lang/Integer") [] (Some a_long) (λ typings h site rest on r at. long_back typings h site rest on _)
    ∷ knows integer_to_string (Some "java/lang/Integer") [] (Some text) (λ typings h site rest on r at. text_back typings h site rest on _)
    ∷ knows same_number (Some "java/lang/Integer") (any_object ∷ []) (Some an_int)
    (λ typings h site rest on r at. (bool_back typings h site rest on false, λ s there. bool_back typings h site rest on _))
    ∷ knows integer_int_value (Some "java/lang/Integer") [] (Some an_int) (λ typings h site rest on r at. int_back typings h site rest on _)
    ∷ knows compare_numbers (Some "java/lang/Integer") (integer ∷ []) (Some an_int) (λ typings h site rest on r at. (no_reference typings h site rest, λ s there. int_back typings h site rest on _))
    ∷ []

unfoldable pub boolean_natives : List Known
boolean_natives =
    knows boolean_value_of None (a_bool ∷ []) (Some boolean) (λ typings h site rest on n small. boolean_back typings h site rest on n small)
    ∷ knows integer_int_value (Some "java/lang/Boolean") [] (Some an_int) (λ typings h site rest on r at. int_back typings h site rest on _)
    ∷ knows boolean_to_string (Some "java/lang/Boolean") [] (Some text) (λ typings h site rest on r at. text_back typings h site rest on _)
    ∷ knows same_number (Some "java/lang/Boolean") (any_object ∷ []) (Some an_int)
    (λ typings h site rest on r at. (bool_back typings h site rest on false, λ s there. bool_back typings h site rest on _))
    ∷ knows compare_numbers (Some "java/lang/Boolean") (boolean ∷ []) (Some an_int) (λ typings h site rest on r at. (no_reference typings h site rest, λ s there. int_back typings h site rest on _))
    ∷ []

unfoldable pub math_natives : List Known
math_natives =
    knows absolute_int None (an_int ∷ []) (Some an_int) (λ typings h site rest on n. int_back typings h site rest on _)
    ∷ knows absolute_long None (a_long ∷ []) (Some a_long) (λ typings h site rest on n. long_back typings h site rest on _)
    ∷ knows (of_ints int_max) None (an_int ∷ an_int ∷ []) (Some an_int) (λ typings h site rest on a b. int_back typings h site rest on _)
    ∷ knows (of_longs int_max) None (a_long ∷ a_long ∷ []) (Some a_long) (λ typings h site rest on a b. long_back typings h site rest on _)
    ∷ knows (of_ints int_min) None (an_int ∷ an_int ∷ []) (Some an_int) (λ typings h site rest on a b. int_back typings h site rest on _)
    ∷ knows (of_longs int_min) None (a_long ∷ a_long ∷ []) (Some a_long) (λ typings h site rest on a b. long_back typings h site rest on _)
    ∷ []
