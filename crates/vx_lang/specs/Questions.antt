-- What native methods answer by cells of objects that hold numbers and references, at one configuration (the class library of Java SE 7).
use Rattle.std.specs.Int.{int_wrapping_sub, w32}
use Rattle.std.specs.Prelude.{ℕ, ℤ, Bool, false, true, pos, ◌&&◌, ◌==◌}
use Rattle.vx_cells.specs.Classes.{has_class}
use Rattle.vx_heap.specs.Heap.{HeapView, class_at_slot}
use Rattle.vx_natives.specs.Deeds.{Deed, raises}
use Rattle.vx_natives.specs.declared.behaviour.CellQuestion.{CellQuestion}
use Rattle.vx_natives.specs.declared.behaviour.CellQuestion.TheVariants as cell
use Rattle.vx_natives.specs.declared.call.Call.{Call}
use Rattle.vx_natives.specs.declared.call.Call.TheVariants as given
use Rattle.vx_natives.specs.declared.effect.Exception.TheVariants.{Null as NullRaised}
use Rattle.vx_strings.specs.Questions.{gives_bool, gives_int, refused}
use Rattle.vx_value.specs.Arithmetic.{compare_long_of, same_int}
use Rattle.vx_value.specs.declared.slot.Slot.{Slot}
use Rattle.vx_value.specs.declared.slot.Slot.TheVariants.{Int, Long, Null, Ref}
use Rattle.vx_lang.specs.Values.{gives}

-- the number in a cell
abbrev pub number_in : Slot → ℤ
number_in (Int n) = n
number_in _ = pos 0

-- two slots are objects of one class
abbrev pub same_class : {S I : Type 0} → HeapView S I → (a b : Slot) → Bool
same_class heap a b = has_class (λ first. has_class (λ second. second == first) (class_at_slot heap b)) (class_at_slot heap a)

-- ---- by a cell of one object

abbrev pub asked_one : CellQuestion → (object value : Slot) → Deed
asked_one cell.IntValue (Ref r) value = gives_int (number_in value)
asked_one cell.LongValue (Ref r) value = gives (Long (number_in value))
asked_one cell.FirstCell (Ref r) value = gives value
asked_one cell.SecondCell (Ref r) value = gives value
asked_one _ object value = refused

-- ---- by cells of two objects, which are of one class or not

abbrev pub asked_two : CellQuestion → (alike : Bool) → (a b first second : Slot) → Deed
asked_two cell.SameNumber alike (Ref r) (Ref s) first second = gives_bool (alike && same_int (number_in first) (number_in second))
asked_two cell.SameNumber alike (Ref r) Null first second = gives_bool false
asked_two cell.CompareNumbers alike (Ref r) (Ref s) first second = gives_int (compare_long_of (number_in first) (number_in second))
asked_two cell.CompareNumbers alike (Ref r) Null first second = raises NullRaised
asked_two cell.CompareOrdinals alike (Ref r) (Ref s) first second = gives_int (int_wrapping_sub w32 (number_in first) (number_in second))
asked_two cell.CompareOrdinals alike (Ref r) Null first second = raises NullRaised
asked_two _ alike a b first second = refused

-- ---- a call with its cells

abbrev pub asked_cells : {S I : Type 0} → HeapView S I → CellQuestion → Call → Deed
asked_cells heap q (given.Two object value) = asked_one q object value
asked_cells heap q (given.Four a b first second) = asked_two q (same_class heap a b) a b first second
asked_cells heap q _ = refused
