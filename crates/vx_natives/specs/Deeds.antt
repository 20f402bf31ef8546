-- What native methods do at one configuration, and what the ordinary machine says of it (the class library of Java SE 7).
use Rattle.std.specs.Prelude.{◌≡◌, ℕ, ℤ, Bool, true, List, [], nat_le, pos, ◌&&◌, ◌+◌, ◌++◌, ◌∷◌}
use Prim.Native.String.{String}
use Rattle.vx_group_states.specs.Answering.{answered, is_answer_held}
use Rattle.vx_group_states.specs.declared.answer.Answer.{Answer}
use Rattle.vx_heap.specs.Heap.{HeapView, is_held, name_at, object_in, value_of}
use Rattle.vx_java.specs.FirstObjects.{core_object, string_object}
use Rattle.vx_java.specs.Library.{copy_within, with_message_and_cause}
use Rattle.vx_java.specs.Machine.{Here, Value, Write, go, past, push_new, raise}
use Rattle.vx_java.specs.Machine.{Int as IntValue, Ref as RefValue}
use Rattle.vx_java.specs.Texts.{char_array, with_text}
use Rattle.vx_link.specs.declared.program.Program.{Program}
use Rattle.vx_space.specs.Sets.{Sets}
use Rattle.vx_value.specs.declared.end.Stream.{Stream}
use Rattle.vx_value.specs.declared.slot.Slot.{Slot}
use Rattle.vx_value.specs.declared.slot.Slot.TheVariants.{Ref}
use Rattle.vx_natives.specs.Doing.{Says, said_over}
use Rattle.vx_natives.specs.Texts.{units_of}
use Rattle.vx_natives.specs.declared.effect.Effect.{Effect}
use Rattle.vx_natives.specs.declared.effect.Effect.TheVariants as effect
use Rattle.vx_natives.specs.declared.effect.Exception.{Exception}
use Rattle.vx_natives.specs.declared.effect.Exception.TheVariants as exception

-- an `Effect` as contracts see it
pub data Deed : Type 0 where
  answers : (answer : Answer) → Deed
  raises : (exception : Exception) → Deed
  gives_text : (start : Slot) → (units : List ℕ) → Deed
  gives_chars : (units : List ℕ) → Deed
  gives_integer : (n : ℤ) → Deed
  prints : (stream : Stream) → (start : Slot) → (units : List ℕ) → Deed
  sets_text : (object : ℕ) → (start : Slot) → (units : List ℕ) → Deed
  changes_text : (object : ℕ) → (start : Slot) → (units : List ℕ) → Deed
  sets_cells : (object : ℕ) → (first second : Slot) → Deed
  copies : (array from other to count : ℕ) → Deed

abbrev pub deed_of : Effect → Deed
deed_of (effect.Answer a) = answers a
deed_of (effect.Raise e) = raises e
deed_of (effect.GiveText start units) = gives_text start units.items
deed_of (effect.GiveChars units) = gives_chars units.items
deed_of (effect.GiveInteger n) = gives_integer n
deed_of (effect.Print stream start units) = prints stream start units.items
deed_of (effect.SetText object start units) = sets_text object start units.items
deed_of (effect.ChangeText object start units) = changes_text object start units.items
deed_of (effect.SetCells object first second) = sets_cells object first second
deed_of (effect.Copy array from other to count) = copies array from other to count

-- the class of what is raised
abbrev pub class_raised : Exception → String
class_raised exception.Null = "java/lang/NullPointerException"
class_raised exception.BadIndex = "java/lang/StringIndexOutOfBoundsException"
class_raised exception.BadNumber = "java/lang/NumberFormatException"
class_raised exception.Memory = "java/lang/OutOfMemoryError"
class_raised exception.NegativeSize = "java/lang/NegativeArraySizeException"
class_raised exception.Store = "java/lang/ArrayStoreException"
class_raised exception.Outside = "java/lang/ArrayIndexOutOfBoundsException"

-- the text of a slot with units behind it
abbrev pub text_with : (texts : List (List ℕ)) → Slot → (units : List ℕ) → List ℕ
text_with texts start units = units_of texts start ++ units

-- what the ordinary machine says of it
abbrev pub deed_says : {S I : Type 0} → Sets I → HeapView S I → Deed → Says
deed_says sets heap (answers a) c h rest = answered sets heap c h rest a
deed_says sets heap (raises e) c h rest = raise h (class_raised e)
deed_says sets heap (gives_text start units) c h rest = push_new h (string_object h.program (text_with heap.texts start units)) rest
deed_says sets heap (gives_chars units) c h rest = push_new h (char_array h units) rest
deed_says sets heap (gives_integer n) c h rest = push_new h (core_object h.program "java/lang/Integer" (IntValue n ∷ [])) rest
deed_says sets heap (prints stream start units) c h rest = Write stream (text_with heap.texts start units) (past h h.state rest)
deed_says sets heap (sets_text r start units) c h rest = go (with_text h (name_at sets heap.objects c r) (text_with heap.texts start units)) rest
deed_says sets heap (changes_text r start units) c h rest =
    go (with_text h (name_at sets heap.objects c r) (text_with heap.texts start units)) (RefValue (name_at sets heap.objects c r) ∷ rest)
deed_says sets heap (sets_cells r a b) c h rest =
    go (with_message_and_cause h (name_at sets heap.objects c r) (value_of sets heap c a) (value_of sets heap c b)) rest
deed_says sets heap (copies array from other to count) c h rest =
    copy_within h rest (name_at sets heap.objects c array) (pos from) (name_at sets heap.objects c other) (pos to) (pos count)

-- an array has elements from a place on, and so many
abbrev pub has_elements : {S I : Type 0} → HeapView S I → (array from count : ℕ) → Bool
has_elements heap array from count = nat_le (from + count) (object_in heap array).length

-- what it names is there
abbrev pub is_deed_held : {S I : Type 0} → Sets I → HeapView S I → List Bool → Deed → Bool
is_deed_held sets heap c (answers a) = is_answer_held sets heap c a
is_deed_held sets heap c (gives_text start units) = is_held sets heap c start
is_deed_held sets heap c (prints stream start units) = is_held sets heap c start
is_deed_held sets heap c (sets_text r start units) = is_held sets heap c (Ref r) && is_held sets heap c start
is_deed_held sets heap c (changes_text r start units) = is_held sets heap c (Ref r) && is_held sets heap c start
is_deed_held sets heap c (sets_cells r a b) = is_held sets heap c (Ref r) && (is_held sets heap c a && is_held sets heap c b)
is_deed_held sets heap c (copies array from other to count) =
    (is_held sets heap c (Ref array) && is_held sets heap c (Ref other)) && (has_elements heap array from count && has_elements heap other to count)
is_deed_held sets heap c _ = true

-- it does what is said, where this stands at the configuration
pub record IsRight {S I : Type 0} (p : Program) (sets : Sets I) (heap : HeapView S I) (c : List Bool) (says : Says) (deed : Deed) : Type 0 where
  pub held : is_deed_held sets heap c deed ≡ true
  pub at : (h : Here) (rest : List Value) → said_over p sets heap (deed_says sets heap deed) c h rest ≡ said_over p sets heap says c h rest
