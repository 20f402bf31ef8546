-- What native methods make of numbers, of classes and of objects that begin, at one configuration (the class library of Java SE 7).
use Rattle.std.specs.Fmt.{signed_decimal}
use Rattle.std.specs.Prelude.{ℕ, ℤ, Bool, List, None, Option, Some, [], if◌then◌else◌, int_le, negsuc, not, option_map, pos, ◌&&◌, ◌∷◌}
use Rattle.vx_cells.specs.Classes.{has_class}
use Rattle.vx_heap.specs.Heap.{HeapView, class_at_slot, object_in}
use Rattle.vx_java.specs.FirstObjects.{first_integer, units_of}
use Rattle.vx_java.specs.Library.{are_like, dotted, within_array}
use Rattle.vx_java.specs.Texts.{bool_text}
use Rattle.vx_link.specs.ClassNames.{class_text}
use Rattle.vx_link.specs.declared.program.Program.{Program}
use Rattle.vx_natives.specs.Deeds.{Deed, copies, gives_integer, raises, sets_cells}
use Rattle.vx_natives.specs.declared.behaviour.Initialiser.{Initialiser}
use Rattle.vx_natives.specs.declared.behaviour.Initialiser.TheVariants as init
use Rattle.vx_natives.specs.declared.behaviour.Maker.{Maker}
use Rattle.vx_natives.specs.declared.behaviour.Maker.TheVariants as maker
use Rattle.vx_natives.specs.declared.call.Call.{Call}
use Rattle.vx_natives.specs.declared.call.Call.TheVariants as given
use Rattle.vx_natives.specs.declared.effect.Exception.TheVariants.{Outside, Store, Null as NullRaised}
use Rattle.vx_strings.specs.Lengths.{gives_short}
use Rattle.vx_strings.specs.Questions.{refused}
use Rattle.vx_strings.specs.Spelled.{of_units}
use Rattle.vx_value.specs.Arithmetic.{natural}
use Rattle.vx_value.specs.declared.slot.Slot.{Slot}
use Rattle.vx_value.specs.declared.slot.Slot.TheVariants.{Int, Null, Ref}
use Rattle.vx_lang.specs.Questions.{number_in}
use Rattle.vx_lang.specs.Values.{gives}

-- ---- texts of numbers and classes, and objects of numbers

-- the first objects for -128 to 127, else a new one
abbrev pub integer_of : ℤ → Deed
integer_of n = if int_le (negsuc 127) n && int_le n (pos 127) then gives (Ref (first_integer n)) else gives_integer n

-- the name of an object's class, with a dot for each slash
abbrev pub class_units : {S I : Type 0} → Program → HeapView S I → (object : ℕ) → Option (List ℕ)
class_units p heap r = option_map (λ class. dotted (units_of (class_text p class.0))) (class_at_slot heap (Ref r))

abbrev pub class_named : (texts : List (List ℕ)) → Option (List ℕ) → Deed
class_named texts None = refused
class_named texts (Some units) = gives_short texts (of_units units)

abbrev pub made_number : {S I : Type 0} → Program → HeapView S I → Maker → Call → Deed
made_number p heap m given.Illegal = refused
made_number p heap maker.LineSeparator call = gives_short heap.texts (of_units (10 ∷ []))
made_number p heap maker.IntegerOf (given.One (Int n)) = integer_of n
made_number p heap maker.SpellInt (given.One (Int n)) = gives_short heap.texts (of_units (signed_decimal n))
made_number p heap maker.SpellInteger (given.Two (Ref r) x) = gives_short heap.texts (of_units (signed_decimal (number_in x)))
made_number p heap maker.SpellBoolean (given.Two (Ref r) x) = gives_short heap.texts (of_units (bool_text (number_in x)))
made_number p heap maker.ClassName (given.One (Ref r)) = class_named heap.texts (class_units p heap r)
made_number p heap _ call = refused

-- ---- enums and throwables that begin

abbrev pub begun : Initialiser → Call → Deed
begun init.Enum (given.Three (Ref r) (Ref name) (Int n)) = sets_cells r (Ref name) (Int n)
begun init.Enum (given.Three (Ref r) Null (Int n)) = raises NullRaised
begun init.Throwable (given.One (Ref r)) = sets_cells r Null Null
begun init.Throwable (given.Two (Ref r) message) = sets_cells r message Null
begun init.Throwable (given.Three (Ref r) message cause) = sets_cells r message cause
begun _ call = refused

-- ---- arrays that are copied

abbrev pub like_slots : {S I : Type 0} → Program → HeapView S I → (from to : Slot) → Bool
like_slots p heap from to = has_class (λ a. has_class (λ b. are_like p a b) (class_at_slot heap to)) (class_at_slot heap from)

abbrev pub copied_between : {S I : Type 0} → Program → HeapView S I → (array : ℕ) → (from : ℤ) → (other : ℕ) → (to count : ℤ) → Deed
copied_between p heap array from other to count =
    if not (like_slots p heap (Ref array) (Ref other)) then raises Store
    else if within_array from count (object_in heap array).length && within_array to count (object_in heap other).length
    then copies array (natural from) other (natural to) (natural count)
    else raises Outside

abbrev pub copied : {S I : Type 0} → Program → HeapView S I → Call → Deed
copied p heap (given.Five (Ref array) (Int from) (Ref other) (Int to) (Int count)) = copied_between p heap array from other to count
copied p heap (given.Five a (Int from) b (Int to) (Int count)) = raises NullRaised
copied p heap _ = refused
