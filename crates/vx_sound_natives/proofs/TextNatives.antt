-- The native methods of String.
use Rattle.std.proofs.Common.{List, None, Some, [], ap, arith, drop, false, length, map, pos, refl, subst, suc, sym, take, true, zero, ℕ, ℤ, ◌-◌, ◌<◌, ◌∙◌, ◌∷◌, ◌≡◌}
use Prim.Native.String.{String}
use Rattle.std.proofs.lemmas.List.{length-map}
use Rattle.std.specs.Prelude.{nat_le, nat_lt, ◌+◌, ◌&&◌}
use Rattle.vx_desc.specs.declared.java_type.Base.TheVariants as base
use Rattle.vx_java.specs.Machine.{Here, Int, Object, Ref, Text, Top, Value, go}
use Rattle.vx_java.specs.Checks.{is_within}
use Rattle.vx_java.specs.Texts.{answer_int, answer_receiver, answer_text, bad_index, char_array, char_text, part, spell_bool, spell_char, spell_chars, spell_int, spell_long, string_compare, string_concat, string_ends_with, string_equals, string_hash, string_index_of, string_index_of_point, string_init, string_init_chars, string_init_string, string_starts_with, string_substring, string_to_chars, text_char_at, text_is_empty, text_length, text_of_object, value_of, with_text}
use Rattle.vx_link.specs.ClassNames.{array_class, char_element, is_array}
use Rattle.vx_link.specs.Parts.{class_count}
use Rattle.vx_link.specs.declared.program.Program.{Program}
use Rattle.vx_list.specs.Places.{item_or}
use Rattle.vx_sound.proofs.ClassNumbers.{array_there, dimensions_there, element_there}
use Rattle.vx_sound.proofs.ClassTypes.{primitives_type, type_there}
use Rattle.vx_sound.proofs.Elements.{IsPrimitiveArray, primitive_cells}
use Rattle.vx_sound.proofs.Sites.{AtSite, Typed}
use Rattle.vx_sound.specs.Typed.{IsTypedObject, Typings}
use Rattle.vx_sound.specs.Values.{type_of_class, type_of_value}
use Rattle.vx_sound_natives.proofs.Cells.{cell_written, goes_next, holder, next_itself}
use Rattle.vx_sound_natives.proofs.ValueKinds.{IsAt, a_long, an_int, an_object, chars, core_type, Kind}
use Rattle.vx_sound_natives.proofs.Known.{Known, either_typed, knows}
use Rattle.vx_sound_natives.proofs.Results.{Leads, bool_back, int_back, new_back, no_index, no_reference, object_back, text_back}
use Rattle.vx_types.proofs.Tests.{not_both}
use Rattle.vx_value.specs.Arithmetic.{natural}
use Rattle.vx_types.specs.Fits.{fits}
use Rattle.vx_types.specs.declared.types.ElementType.TheVariants as element
use Rattle.vx_types.specs.declared.types.VerType.{VerType}
use Rattle.vx_types.specs.declared.types.VerType.TheVariants as is

-- ---- arrays of chars

-- the numbers of some units
number_at : (units : List ℕ) (i : ℕ) → i < length units → (P : Value → Type 0) → ((n : ℤ) → P (Int n)) → P (item_or (map (λ u. Int (pos u)) units) i Top)
number_at [] i less P each = absurd (omega (arith, less))
number_at (u ∷ units) zero less P each = each (pos u)
number_at (u ∷ units) (suc i) less P each = number_at units i (omega (arith, less)) P each

char_class : (p : Program) → IsPrimitiveArray p (array_class p 1 char_element) base.Char
char_class p =
    let below : char_element < class_count p + 8 = omega arith in
    let element = element_there p 1 char_element (omega arith) below in
    record {
      array = array_there p 1 char_element (omega arith) below;
      dimensions = dimensions_there p 1 char_element (omega arith) below;
      element = element;
      low = ap (λ e. nat_lt e 8) element;
    }

pub char_class_type : (p : Program) → type_of_class p (array_class p 1 char_element) ≡ is.Ref 0 (element.Primitives base.Char)
char_class_type p = type_there p 1 char_element (omega arith) (omega arith) ∙ primitives_type p 1 char_element refl

pub chars_typed : (h : Here) (heap : List Object) (units : List ℕ) → IsTypedObject h.program heap (char_array h units)
chars_typed h heap units = record {
  size = λ array. sym (length-map units (λ u. Int (pos u)));
  cells = λ array i less. let size : length (map (λ u. Int (pos u)) units) ≡ length units = length-map units (λ u. Int (pos u)) in
      subst (λ (t : VerType). fits h.program (type_of_value h.program heap (item_or (map (λ u. Int (pos u)) units) i Top)) t ≡ true)
      (sym (primitive_cells h.program (array_class h.program 1 char_element) base.Char (char_class h.program)))
      (number_at units i (omega (arith, less, size)) (λ v. fits h.program (type_of_value h.program heap v) is.Int ≡ true) (λ n. refl));
  fields = λ plain f less has. not_both (is_array h.program (array_class h.program 1 char_element)) (let q = char_class h.program in q.array) plain;
}

-- ---- texts

module _ (typings : Typings) (h : Here) (site : AtSite typings h) (rest : List Value) where
  pub string_set : Leads typings h rest None → (r : ℕ) → IsAt h.program h.state.heap (core_type h.program "java/lang/String") r → (units : List ℕ) → Typed typings h (go (with_text h r units) rest)
  string_set on r at units =
      goes_next typings h site rest on _
      (cell_written h.program site.sound h.state.heap h.state.heap (next_itself h.program site.sound h.state.heap site.state.heap) "java/lang/String"
      (holder h.program site.sound "java/lang/String" refl refl) 0 is.Top site.sound.objects.string r at (Text units) refl)

  pub char_back : Leads typings h rest (Some an_int) → (r : ℕ) (i : ℤ) → Typed typings h (text_char_at h (Ref r ∷ Int i ∷ []) rest)
  char_back on r i =
      either_typed typings h (is_within i (length (text_of_object h r))) (answer_int h rest (pos (item_or (text_of_object h r) (natural i) 0))) (bad_index h)
      (int_back typings h site rest on _) (no_index typings h site rest)

  pub part_back : Leads typings h rest (Some (an_object "java/lang/String")) → (units : List ℕ) (begin end : ℤ) → Typed typings h (part h rest units begin end)
  part_back on units (pos begin) (pos end) =
      either_typed typings h (nat_le begin end && nat_le end (length units)) (answer_text h rest (take (end - begin) (drop begin units))) (bad_index h)
      (text_back typings h site rest on (take (end - begin) (drop begin units))) (no_index typings h site rest)
  part_back on units _ _ = no_index typings h site rest

-- ---- the table

abbrev pub string : String
string = "java/lang/String"

abbrev pub text : Kind
text = an_object "java/lang/String"

unfoldable pub string_natives : List Known
string_natives =
    knows string_init (Some string) [] None (λ typings h site rest on r at. string_set typings h site rest on r at [])
    ∷ knows string_init_string (Some string) (text ∷ []) None (λ typings h site rest on r at. (no_reference typings h site rest, λ s there. string_set typings h site rest on r at _))
    ∷ knows string_init_chars (Some string) (chars ∷ []) None (λ typings h site rest on r at. (no_reference typings h site rest, λ a there. string_set typings h site rest on r at _))
    ∷ knows text_length (Some string) [] (Some an_int) (λ typings h site rest on r at. int_back typings h site rest on _)
    ∷ knows text_is_empty (Some string) [] (Some an_int) (λ typings h site rest on r at. bool_back typings h site rest on _)
    ∷ knows text_char_at (Some string) (an_int ∷ []) (Some an_int) (λ typings h site rest on r at i. char_back typings h site rest on r i)
    ∷ knows string_hash (Some string) [] (Some an_int) (λ typings h site rest on r at. int_back typings h site rest on _)
    ∷ knows string_equals (Some string) (an_object "java/lang/Object" ∷ []) (Some an_int)
    (λ typings h site rest on r at. (bool_back typings h site rest on false, λ s there. bool_back typings h site rest on _))
    ∷ knows string_compare (Some string) (text ∷ []) (Some an_int) (λ typings h site rest on r at. (no_reference typings h site rest, λ s there. int_back typings h site rest on _))
    ∷ knows string_concat (Some string) (text ∷ []) (Some text) (λ typings h site rest on r at. (no_reference typings h site rest, λ s there. text_back typings h site rest on _))
    ∷ knows string_substring (Some string) (an_int ∷ []) (Some text) (λ typings h site rest on r at begin. part_back typings h site rest on _ begin _)
    ∷ knows string_substring (Some string) (an_int ∷ an_int ∷ []) (Some text) (λ typings h site rest on r at begin end. part_back typings h site rest on _ begin end)
    ∷ knows string_index_of_point (Some string) (an_int ∷ []) (Some an_int) (λ typings h site rest on r at n. int_back typings h site rest on _)
    ∷ knows string_index_of (Some string) (text ∷ []) (Some an_int) (λ typings h site rest on r at. (no_reference typings h site rest, λ s there. int_back typings h site rest on _))
    ∷ knows string_starts_with (Some string) (text ∷ []) (Some an_int) (λ typings h site rest on r at. (no_reference typings h site rest, λ s there. bool_back typings h site rest on _))
    ∷ knows string_ends_with (Some string) (text ∷ []) (Some an_int) (λ typings h site rest on r at. (no_reference typings h site rest, λ s there. bool_back typings h site rest on _))
    ∷ knows string_to_chars (Some string) [] (Some chars)
    (λ typings h site rest on r at. new_back typings h site rest chars on (char_array h _) (char_class_type h.program) (chars_typed h _ _))
    ∷ knows answer_receiver (Some string) [] (Some text) (λ typings h site rest on r at. object_back typings h site rest string on r at)
    ∷ knows (value_of spell_int) None (an_int ∷ []) (Some text) (λ typings h site rest on n. text_back typings h site rest on _)
    ∷ knows (value_of spell_long) None (a_long ∷ []) (Some text) (λ typings h site rest on n. text_back typings h site rest on _)
    ∷ knows (value_of spell_bool) None (an_int ∷ []) (Some text) (λ typings h site rest on n. text_back typings h site rest on _)
    ∷ knows (value_of spell_char) None (an_int ∷ []) (Some text) (λ typings h site rest on n. text_back typings h site rest on (char_text n))
    ∷ knows (value_of spell_chars) None (chars ∷ []) (Some text) (λ typings h site rest on. (no_reference typings h site rest, λ a there. text_back typings h site rest on _))
    ∷ []
