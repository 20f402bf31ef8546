-- What is answered by texts is what the ordinary machine says of the plain objects.
use Rattle.std.proofs.Common.{◌≡◌, ℕ, ℤ, Bool, true, false, List, [], ◌∷◌, bytes_eq, refl, sym, ◌∙◌, ap, if◌then◌else◌, length, pos}
use Rattle.std.specs.List.{ends_with, starts_with}
use Rattle.std.specs.Prelude.{None, Option, Some, int_le, nat_eq, nat_le, negsuc, option_and_then, ◌&&◌, ◌==◌}
use Rattle.vx_cells.proofs.ObjectClasses.{class_there}
use Rattle.vx_group_states.proofs.StateLaws.{both_first, both_second}
use Rattle.vx_heap.specs.Heap.{HeapView, are_held, globals_at, is_held, name_at, value_of}
use Rattle.vx_java.specs.Checks.{is_within}
use Rattle.vx_java.specs.Library.{if_in_range, signed_value}
use Rattle.vx_java.specs.Machine.{Here, Value, go, no_object, raise, when}
use Rattle.vx_java.specs.Machine.{Int as IntValue}
use Rattle.vx_java.specs.Objects.{int_of_bool}
use Rattle.vx_java.specs.Texts.{hash_of, place_of, place_of_point, text_difference, text_of_object, units_of_point}
use Rattle.vx_link.specs.ClassNames.{core_class}
use Rattle.vx_link.specs.declared.program.Program.{Program}
use Rattle.vx_list.specs.Places.{item_or}
use Rattle.vx_natives.proofs.Rights.{held_if, says_if, text_there}
use Rattle.vx_natives.specs.Cells.{cell_of}
use Rattle.vx_natives.specs.Deeds.{IsRight, deed_says, is_deed_held, raises}
use Rattle.vx_natives.specs.Doing.{over}
use Rattle.vx_natives.specs.Readings.{IsCallOr, said}
use Rattle.vx_natives.specs.Texts.{units_of}
use Rattle.vx_natives.specs.declared.behaviour.Behaviour.TheVariants.{AskTexts}
use Rattle.vx_natives.specs.declared.behaviour.TextQuestion.{TextQuestion}
use Rattle.vx_natives.specs.declared.behaviour.TextQuestion.TheVariants as text
use Rattle.vx_natives.specs.declared.call.Call.{Call}
use Rattle.vx_natives.specs.declared.call.Call.TheVariants as given
use Rattle.vx_natives.specs.declared.effect.Exception.TheVariants.{BadIndex}
use Rattle.vx_space.specs.Sets.{Sets}
use Rattle.vx_value.specs.Arithmetic.{natural}
use Rattle.vx_value.specs.declared.slot.Slot.{Slot}
use Rattle.vx_value.specs.declared.slot.Slot.TheVariants.{Int, Null, Ref}
use Rattle.vx_units.specs.Numbers.{if_int, int_in}
use Rattle.vx_strings.specs.Questions.{asked, gives_bool, gives_int, is_string, parsed}

module _ {S I : Type 0} (p : Program) (sets : Sets I) (heap : HeapView S I) (c : List Bool) where
  abbrev H : Here → Here
  H h = over p h (globals_at sets heap c)

  abbrev name : ℕ → ℕ
  name r = name_at sets heap.objects c r

  -- a text that was read
  abbrev IsText : (r : ℕ) (t : Slot) → Type 0
  IsText r t = value_of sets heap c t ≡ cell_of sets heap c (Ref r) 0

  units : (r : ℕ) (t : Slot) (h : Here) → IsText r t → units_of heap.texts t ≡ text_of_object (H h) (name r)
  units r t h e = sym (text_there sets heap c p h r t e)

  bool_says : (b : Bool) (h : Here) (rest : List Value) → deed_says sets heap (gives_bool b) c h rest ≡ go h (int_of_bool b ∷ rest)
  bool_says true h rest = refl
  bool_says false h rest = refl

  -- ---- a string is one

  string_there : (s : ℕ) (h : Here) → is_held sets heap c (Ref s) ≡ true → is_string p heap (Ref s) ≡ ((item_or (globals_at sets heap c).objects (name s) no_object).class == core_class p "java/lang/String")
  string_there s h t = class_there (λ class. class == core_class p "java/lang/String") sets heap c s t

  -- ---- numbers

  parsed_says : (o : Option ℤ) (h : Here) (rest : List Value) → deed_says sets heap (parsed (option_and_then if_int o)) c h rest ≡ if_in_range h rest o
  parsed_says None h rest = refl
  parsed_says (Some n) h rest = cases (int_le (negsuc 2147483647) n && int_le n (pos 2147483647))
    where
      cases : (b : Bool) → deed_says sets heap (parsed (if b then Some n else None)) c h rest ≡ when b (go h (IntValue n ∷ rest)) (raise h "java/lang/NumberFormatException")
      cases true = refl
      cases false = refl

  parsed_held : (o : Option ℤ) → is_deed_held sets heap c (parsed o) ≡ true
  parsed_held None = refl
  parsed_held (Some n) = refl

  -- ---- calls

  second_held : (a b : Slot) (read : List Slot) → are_held sets heap c (a ∷ b ∷ read) ≡ true → is_held sets heap c b ≡ true
  second_held a b read t = both_first (is_held sets heap c b) (are_held sets heap c read) (both_second (is_held sets heap c a) (are_held sets heap c (b ∷ read)) t)

  bool_held : (b : Bool) → is_deed_held sets heap c (gives_bool b) ≡ true
  bool_held true = refl
  bool_held false = refl

  pub asked_right : (q : TextQuestion) (call : Call) → IsCallOr sets heap c (AskTexts q) call → IsRight p sets heap c (said sets heap (AskTexts q) call) (asked p heap q call)
  asked_right text.Length given.Illegal k = record { held = refl; at = λ h rest. refl }
  asked_right text.Length (given.Two (Ref r) t) k = record { held = refl; at = λ h rest. ap (λ us. go (H h) (IntValue (pos (length us)) ∷ rest)) (units r t h k.readings.0) }
  asked_right text.Length (given.Two a t) k = record { held = refl; at = λ h rest. refl }
  asked_right text.Length call k = cc k.given.count
  asked_right text.IsEmpty given.Illegal k = record { held = refl; at = λ h rest. refl }
  asked_right text.IsEmpty (given.Two (Ref r) t) k = record {
    held = bool_held (length (units_of heap.texts t) == 0);
    at = λ h rest. bool_says (length (units_of heap.texts t) == 0) (H h) rest ∙ ap (λ us. go (H h) (int_of_bool (length us == 0) ∷ rest)) (units r t h k.readings.0);
  }
  asked_right text.IsEmpty (given.Two a t) k = record { held = refl; at = λ h rest. refl }
  asked_right text.IsEmpty call k = cc k.given.count
  asked_right text.Hash given.Illegal k = record { held = refl; at = λ h rest. refl }
  asked_right text.Hash (given.Two (Ref r) t) k = record { held = refl; at = λ h rest. ap (λ us. go (H h) (IntValue (hash_of us) ∷ rest)) (units r t h k.readings.0) }
  asked_right text.Hash (given.Two a t) k = record { held = refl; at = λ h rest. refl }
  asked_right text.Hash call k = cc k.given.count
  asked_right text.Parse given.Illegal k = record { held = refl; at = λ h rest. refl }
  asked_right text.Parse (given.Two (Ref r) t) k = record {
    held = parsed_held (int_in (units_of heap.texts t));
    at = λ h rest. parsed_says (signed_value (units_of heap.texts t)) (H h) rest ∙ ap (λ us. if_in_range (H h) rest (signed_value us)) (units r t h k.readings.0);
  }
  asked_right text.Parse (given.Two a t) k = record { held = refl; at = λ h rest. refl }
  asked_right text.Parse call k = cc k.given.count
  asked_right text.CharAt given.Illegal k = record { held = refl; at = λ h rest. refl }
  asked_right text.CharAt (given.Three (Ref r) (Int i) t) k =
      let us = units_of heap.texts t in
      record {
        held = held_if sets heap c (is_within i (length us)) (gives_int (pos (item_or us (natural i) 0))) (raises BadIndex) refl refl;
        at = λ h rest.
            says_if sets heap c (is_within i (length us)) (gives_int (pos (item_or us (natural i) 0))) (raises BadIndex) (H h) rest
            ∙ ap (λ xs. when (is_within i (length xs)) (go (H h) (IntValue (pos (item_or xs (natural i) 0)) ∷ rest)) (raise (H h) "java/lang/StringIndexOutOfBoundsException")) (units r t h k.readings.0);
      }
  asked_right text.CharAt (given.Three (Ref r) b t) k = record { held = refl; at = λ h rest. refl }
  asked_right text.CharAt (given.Three a b t) k = record { held = refl; at = λ h rest. refl }
  asked_right text.CharAt call k = cc k.given.count
  asked_right text.PlaceOfPoint given.Illegal k = record { held = refl; at = λ h rest. refl }
  asked_right text.PlaceOfPoint (given.Three (Ref r) (Int n) t) k = record { held = refl; at = λ h rest. ap (λ us. go (H h) (IntValue (place_of_point us (units_of_point n)) ∷ rest)) (units r t h k.readings.0) }
  asked_right text.PlaceOfPoint (given.Three (Ref r) b t) k = record { held = refl; at = λ h rest. refl }
  asked_right text.PlaceOfPoint (given.Three a b t) k = record { held = refl; at = λ h rest. refl }
  asked_right text.PlaceOfPoint call k = cc k.given.count
  asked_right text.Equals given.Illegal k = record { held = refl; at = λ h rest. refl }
  asked_right text.Equals (given.Four (Ref r) (Ref s) t u) k = record {
    held = bool_held (is_string p heap (Ref s) && bytes_eq (units_of heap.texts t) (units_of heap.texts u));
    at = λ h rest.
        bool_says (is_string p heap (Ref s) && bytes_eq (units_of heap.texts t) (units_of heap.texts u)) (H h) rest
        ∙ (
        let string = string_there s h (second_held (Ref r) (Ref s) (t ∷ u ∷ []) k.held) in
        let first = units r t h k.readings.0 in
        let second = units s u h k.readings.1.0 in
        λ i. go (H h) (int_of_bool (string i && bytes_eq (first i) (second i)) ∷ rest));
  }
  asked_right text.Equals (given.Four (Ref r) Null t u) k = record { held = refl; at = λ h rest. refl }
  asked_right text.Equals (given.Four (Ref r) b t u) k = record { held = refl; at = λ h rest. refl }
  asked_right text.Equals (given.Four a b t u) k = record { held = refl; at = λ h rest. refl }
  asked_right text.Equals call k = cc k.given.count
  asked_right text.Compare given.Illegal k = record { held = refl; at = λ h rest. refl }
  asked_right text.Compare (given.Four (Ref r) (Ref s) t u) k = record {
    held = refl;
    at = λ h rest.
        let first = units r t h k.readings.0 in
        let second = units s u h k.readings.1.0 in
        λ i. go (H h) (IntValue (text_difference (first i) (second i)) ∷ rest);
  }
  asked_right text.Compare (given.Four (Ref r) b t u) k = record { held = refl; at = λ h rest. refl }
  asked_right text.Compare (given.Four a b t u) k = record { held = refl; at = λ h rest. refl }
  asked_right text.Compare call k = cc k.given.count
  asked_right text.PlaceOf given.Illegal k = record { held = refl; at = λ h rest. refl }
  asked_right text.PlaceOf (given.Four (Ref r) (Ref s) t u) k = record {
    held = refl;
    at = λ h rest.
        let first = units r t h k.readings.0 in
        let second = units s u h k.readings.1.0 in
        λ i. go (H h) (IntValue (place_of 0 (second i) (first i)) ∷ rest);
  }
  asked_right text.PlaceOf (given.Four (Ref r) b t u) k = record { held = refl; at = λ h rest. refl }
  asked_right text.PlaceOf (given.Four a b t u) k = record { held = refl; at = λ h rest. refl }
  asked_right text.PlaceOf call k = cc k.given.count
  asked_right text.StartsWith given.Illegal k = record { held = refl; at = λ h rest. refl }
  asked_right text.StartsWith (given.Four (Ref r) (Ref s) t u) k = record {
    held = bool_held (starts_with nat_eq (units_of heap.texts t) (units_of heap.texts u));
    at = λ h rest.
        bool_says (starts_with nat_eq (units_of heap.texts t) (units_of heap.texts u)) (H h) rest
        ∙ (
        let first = units r t h k.readings.0 in
        let second = units s u h k.readings.1.0 in
        λ i. go (H h) (int_of_bool (starts_with nat_eq (first i) (second i)) ∷ rest));
  }
  asked_right text.StartsWith (given.Four (Ref r) b t u) k = record { held = refl; at = λ h rest. refl }
  asked_right text.StartsWith (given.Four a b t u) k = record { held = refl; at = λ h rest. refl }
  asked_right text.StartsWith call k = cc k.given.count
  asked_right text.EndsWith given.Illegal k = record { held = refl; at = λ h rest. refl }
  asked_right text.EndsWith (given.Four (Ref r) (Ref s) t u) k = record {
    held = bool_held (nat_le (length (units_of heap.texts u)) (length (units_of heap.texts t)) && ends_with nat_eq (units_of heap.texts t) (units_of heap.texts u));
    at = λ h rest.
        bool_says (nat_le (length (units_of heap.texts u)) (length (units_of heap.texts t)) && ends_with nat_eq (units_of heap.texts t) (units_of heap.texts u)) (H h) rest
        ∙ (
        let first = units r t h k.readings.0 in
        let second = units s u h k.readings.1.0 in
        λ i. go (H h) (int_of_bool (nat_le (length (second i)) (length (first i)) && ends_with nat_eq (first i) (second i)) ∷ rest));
  }
  asked_right text.EndsWith (given.Four (Ref r) b t u) k = record { held = refl; at = λ h rest. refl }
  asked_right text.EndsWith (given.Four a b t u) k = record { held = refl; at = λ h rest. refl }
  asked_right text.EndsWith call k = cc k.given.count
