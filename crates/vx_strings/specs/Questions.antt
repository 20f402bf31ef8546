-- What native methods answer by texts, at one configuration (the class library of Java SE 7).
use Rattle.std.specs.List.{ends_with, starts_with}
use Rattle.std.specs.Prelude.{ℕ, ℤ, Bool, false, List, None, Option, Some, bytes_eq, if◌then◌else◌, length, nat_eq, nat_le, pos, ◌&&◌, ◌==◌}
use Rattle.vx_cells.specs.Classes.{has_class}
use Rattle.vx_group_states.specs.declared.answer.Answer.TheVariants.{Give, Illegal}
use Rattle.vx_heap.specs.Heap.{HeapView, class_at_slot}
use Rattle.vx_java.specs.Checks.{is_within}
use Rattle.vx_java.specs.Texts.{hash_of, place_of, place_of_point, text_difference, units_of_point}
use Rattle.vx_link.specs.ClassNames.{core_class}
use Rattle.vx_link.specs.declared.program.Program.{Program}
use Rattle.vx_list.specs.Places.{item_or}
use Rattle.vx_natives.specs.Deeds.{Deed, answers, raises}
use Rattle.vx_natives.specs.Texts.{units_of}
use Rattle.vx_natives.specs.declared.behaviour.TextQuestion.{TextQuestion}
use Rattle.vx_natives.specs.declared.behaviour.TextQuestion.TheVariants as text
use Rattle.vx_natives.specs.declared.call.Call.{Call}
use Rattle.vx_natives.specs.declared.call.Call.TheVariants as given
use Rattle.vx_natives.specs.declared.effect.Exception.TheVariants.{BadIndex, BadNumber, Null as NullRaised}
use Rattle.vx_units.specs.Numbers.{int_in}
use Rattle.vx_value.specs.Arithmetic.{natural}
use Rattle.vx_value.specs.declared.slot.Slot.{Slot}
use Rattle.vx_value.specs.declared.slot.Slot.TheVariants.{Int, Null, Ref}

-- an int, and a boolean, are given
abbrev pub gives_int : ℤ → Deed
gives_int n = answers (Give (Int n))

abbrev pub gives_bool : Bool → Deed
gives_bool b = gives_int (if b then pos 1 else pos 0)

abbrev pub refused : Deed
refused = answers Illegal

-- ---- one text

abbrev pub parsed : Option ℤ → Deed
parsed None = raises BadNumber
parsed (Some n) = gives_int n

abbrev pub asked_one : TextQuestion → (object : Slot) → List ℕ → Deed
asked_one text.Length (Ref r) units = gives_int (pos (length units))
asked_one text.IsEmpty (Ref r) units = gives_bool (length units == 0)
asked_one text.Hash (Ref r) units = gives_int (hash_of units)
asked_one text.Parse (Ref r) units = parsed (int_in units)
asked_one text.Parse object units = raises BadNumber
asked_one _ object units = refused

-- ---- a text and an int

abbrev pub char_at : List ℕ → ℤ → Deed
char_at units i = if is_within i (length units) then gives_int (pos (item_or units (natural i) 0)) else raises BadIndex

abbrev pub asked_int : TextQuestion → (object number : Slot) → List ℕ → Deed
asked_int text.CharAt (Ref r) (Int i) units = char_at units i
asked_int text.PlaceOfPoint (Ref r) (Int n) units = gives_int (place_of_point units (units_of_point n))
asked_int _ object number units = refused

-- ---- two texts

abbrev pub asked_both : TextQuestion → (string : Bool) → (first second : List ℕ) → Deed
asked_both text.Equals string first second = gives_bool (string && bytes_eq first second)
asked_both text.Compare string first second = gives_int (text_difference first second)
asked_both text.PlaceOf string first second = gives_int (place_of 0 second first)
asked_both text.StartsWith string first second = gives_bool (starts_with nat_eq first second)
asked_both text.EndsWith string first second = gives_bool (nat_le (length second) (length first) && ends_with nat_eq first second)
asked_both _ string first second = refused

-- null equals no string
abbrev pub asked_null : TextQuestion → Deed
asked_null text.Equals = gives_bool false
asked_null _ = raises NullRaised

abbrev pub asked_two : TextQuestion → (string : Bool) → (a b : Slot) → (first second : List ℕ) → Deed
asked_two q string (Ref r) (Ref s) first second = asked_both q string first second
asked_two q string (Ref r) Null first second = asked_null q
asked_two q string a b first second = refused

-- ---- a call with its texts

-- an object is a string
abbrev pub is_string : {S I : Type 0} → Program → HeapView S I → Slot → Bool
is_string p heap slot = has_class (λ class. class == core_class p "java/lang/String") (class_at_slot heap slot)

abbrev pub asked : {S I : Type 0} → Program → HeapView S I → TextQuestion → Call → Deed
asked p heap q (given.Two object t) = asked_one q object (units_of heap.texts t)
asked p heap q (given.Three object number t) = asked_int q object number (units_of heap.texts t)
asked p heap q (given.Four a b t u) = asked_two q (is_string p heap b) a b (units_of heap.texts t) (units_of heap.texts u)
asked p heap q _ = refused
