-- Slots that stand for plain values which name no object, where the empty text has a number (own).
use Rattle.std.specs.List.{AllZip}
use Rattle.std.specs.Prelude.{◌≡◌, ℕ, true, List, [], length}
use Rattle.vx_initial_heap.specs.First.{is_among, value_in}
use Rattle.vx_java.specs.Machine.{Value}
use Rattle.vx_value.specs.Texts.{IsNumber}
use Rattle.vx_value.specs.declared.slot.Slot.{Slot}

-- a slot stands for a value in each table in which the empty text has this number
pub record IsSlotOf (empty : ℕ) (slot : Slot) (value : Value) : Type 0 where
  pub value_is : (texts : List (List ℕ)) → IsNumber texts empty [] → value_in texts slot ≡ value
  pub among : (texts : List (List ℕ)) → IsNumber texts empty [] → is_among 0 (length texts) slot ≡ true

abbrev pub AreSlotsOf : (empty : ℕ) → List Slot → List Value → Type 0
AreSlotsOf empty slots values = AllZip (IsSlotOf empty) slots values
