-- What native methods answer by cells is what the ordinary machine makes of the plain objects.
use Rattle.std.proofs.Common.{◌≡◌, ℕ, ℤ, Bool, true, false, List, [], ◌∷◌, refl, sym, ◌∙◌, ap}
use Rattle.std.specs.Int.{int_wrapping_sub, w32}
use Rattle.std.specs.Prelude.{◌&&◌, ◌==◌}
use Rattle.vx_cells.proofs.ObjectClasses.{class_there}
use Rattle.vx_cells.specs.Classes.{has_class}
use Rattle.vx_group_states.proofs.StateLaws.{both_first, both_second}
use Rattle.vx_heap.specs.Heap.{HeapView, are_held, class_at_slot, globals_at, is_held, name_at, objects_at, value_of}
use Rattle.vx_java.specs.Library.{number_in as number_in_value}
use Rattle.vx_java.specs.Machine.{Here, Int as IntValue, Long as LongValue, Value, cell_at, go, no_object}
use Rattle.vx_java.specs.Objects.{int_of_bool}
use Rattle.vx_link.specs.declared.program.Program.{Program}
use Rattle.vx_list.specs.Places.{item_or}
use Rattle.vx_natives.specs.Cells.{cell_of}
use Rattle.vx_natives.specs.Deeds.{IsRight, deed_says, is_deed_held}
use Rattle.vx_natives.specs.Doing.{over}
use Rattle.vx_natives.specs.Readings.{IsCallOr, said}
use Rattle.vx_natives.specs.declared.behaviour.Behaviour.TheVariants.{AskCells}
use Rattle.vx_natives.specs.declared.behaviour.CellQuestion.{CellQuestion}
use Rattle.vx_natives.specs.declared.behaviour.CellQuestion.TheVariants as cell
use Rattle.vx_natives.specs.declared.call.Call.{Call}
use Rattle.vx_natives.specs.declared.call.Call.TheVariants as given
use Rattle.vx_space.specs.Sets.{Sets}
use Rattle.vx_strings.specs.Questions.{gives_bool}
use Rattle.vx_value.specs.Arithmetic.{compare_long_of, same_int}
use Rattle.vx_value.specs.declared.slot.Slot.{Slot}
use Rattle.vx_value.specs.declared.slot.Slot.TheVariants.{Int, Long, Null, Ref, Text, Top}
use Rattle.vx_lang.specs.Questions.{asked_cells, number_in, same_class}

pub number_there : {S I : Type 0} (sets : Sets I) (heap : HeapView S I) (c : List Bool) (slot : Slot) → number_in slot ≡ number_in_value (value_of sets heap c slot)
number_there sets heap c Top = refl
number_there sets heap c (Int n) = refl
number_there sets heap c (Long n) = refl
number_there sets heap c Null = refl
number_there sets heap c (Ref r) = refl
number_there sets heap c (Text n) = refl

module _ {S I : Type 0} (p : Program) (sets : Sets I) (heap : HeapView S I) (c : List Bool) where
  abbrev H : Here → Here
  H h = over p h (globals_at sets heap c)

  abbrev name : ℕ → ℕ
  name r = name_at sets heap.objects c r

  -- the number in a cell that was read
  pub number_at : (h : Here) (r k : ℕ) (x : Slot) → value_of sets heap c x ≡ cell_of sets heap c (Ref r) k → number_in x ≡ number_in_value (cell_at (H h).state (name r) k)
  number_at h r k x e = number_there sets heap c x ∙ ap number_in_value e

  bool_says : (b : Bool) (h : Here) (rest : List Value) → deed_says sets heap (gives_bool b) c (H h) rest ≡ go (H h) (int_of_bool b ∷ rest)
  bool_says true h rest = refl
  bool_says false h rest = refl

  bool_held : (b : Bool) → is_deed_held sets heap c (gives_bool b) ≡ true
  bool_held true = refl
  bool_held false = refl

  -- two objects are of one class where the plain ones are
  alike : (r s : ℕ) → is_held sets heap c (Ref r) ≡ true → is_held sets heap c (Ref s) ≡ true → same_class heap (Ref r) (Ref s) ≡ ((item_or (objects_at sets heap c) (name s) no_object).class == (item_or (objects_at sets heap c) (name r) no_object).class)
  alike r s t u =
      class_there (λ k. has_class (λ l. l == k) (class_at_slot heap (Ref s))) sets heap c r t
      ∙ class_there (λ l. l == (item_or (objects_at sets heap c) (name r) no_object).class) sets heap c s u

  first_held : (a : Slot) (rest : List Slot) → are_held sets heap c (a ∷ rest) ≡ true → is_held sets heap c a ≡ true
  first_held a rest t = both_first (is_held sets heap c a) (are_held sets heap c rest) t

  second_held : (a b : Slot) (rest : List Slot) → are_held sets heap c (a ∷ b ∷ rest) ≡ true → is_held sets heap c b ≡ true
  second_held a b rest t = first_held b rest (both_second (is_held sets heap c a) (are_held sets heap c (b ∷ rest)) t)

  pub asked_cells_right : (q : CellQuestion) (call : Call) → IsCallOr sets heap c (AskCells q) call → IsRight p sets heap c (said sets heap (AskCells q) call) (asked_cells heap q call)
  asked_cells_right cell.IntValue given.Illegal k = record { held = refl; at = λ h rest. refl }
  asked_cells_right cell.IntValue (given.Two (Ref r) x) k = record { held = refl; at = λ h rest. ap (λ n. go (H h) (IntValue n ∷ rest)) (number_at h r 0 x k.readings.0) }
  asked_cells_right cell.IntValue (given.Two a x) k = record { held = refl; at = λ h rest. refl }
  asked_cells_right cell.IntValue call k = cc k.given.count
  asked_cells_right cell.LongValue given.Illegal k = record { held = refl; at = λ h rest. refl }
  asked_cells_right cell.LongValue (given.Two (Ref r) x) k = record { held = refl; at = λ h rest. ap (λ n. go (H h) (LongValue n ∷ rest)) (number_at h r 0 x k.readings.0) }
  asked_cells_right cell.LongValue (given.Two a x) k = record { held = refl; at = λ h rest. refl }
  asked_cells_right cell.LongValue call k = cc k.given.count
  asked_cells_right cell.FirstCell given.Illegal k = record { held = refl; at = λ h rest. refl }
  asked_cells_right cell.FirstCell (given.Two (Ref r) x) k = record { held = second_held (Ref r) x [] k.held; at = λ h rest. ap (λ (v : Value). go (H h) (v ∷ rest)) k.readings.0 }
  asked_cells_right cell.FirstCell (given.Two a x) k = record { held = refl; at = λ h rest. refl }
  asked_cells_right cell.FirstCell call k = cc k.given.count
  asked_cells_right cell.SecondCell given.Illegal k = record { held = refl; at = λ h rest. refl }
  asked_cells_right cell.SecondCell (given.Two (Ref r) x) k = record { held = second_held (Ref r) x [] k.held; at = λ h rest. ap (λ (v : Value). go (H h) (v ∷ rest)) k.readings.0 }
  asked_cells_right cell.SecondCell (given.Two a x) k = record { held = refl; at = λ h rest. refl }
  asked_cells_right cell.SecondCell call k = cc k.given.count
  asked_cells_right cell.SameNumber given.Illegal k = record { held = refl; at = λ h rest. refl }
  asked_cells_right cell.SameNumber (given.Four (Ref r) (Ref s) x y) k = record {
    held = bool_held (same_class heap (Ref r) (Ref s) && same_int (number_in x) (number_in y));
    at = λ h rest.
        bool_says (same_class heap (Ref r) (Ref s) && same_int (number_in x) (number_in y)) h rest
        ∙ (
        let one = alike r s (first_held (Ref r) (Ref s ∷ x ∷ y ∷ []) k.held) (second_held (Ref r) (Ref s) (x ∷ y ∷ []) k.held) in
        let m = number_at h r 0 x k.readings.0 in
        let n = number_at h s 0 y k.readings.1.0 in
        λ i. go (H h) (int_of_bool (one i && same_int (m i) (n i)) ∷ rest));
  }
  asked_cells_right cell.SameNumber (given.Four (Ref r) Null x y) k = record { held = refl; at = λ h rest. refl }
  asked_cells_right cell.SameNumber (given.Four (Ref r) b x y) k = record { held = refl; at = λ h rest. refl }
  asked_cells_right cell.SameNumber (given.Four a b x y) k = record { held = refl; at = λ h rest. refl }
  asked_cells_right cell.SameNumber call k = cc k.given.count
  asked_cells_right cell.CompareNumbers given.Illegal k = record { held = refl; at = λ h rest. refl }
  asked_cells_right cell.CompareNumbers (given.Four (Ref r) (Ref s) x y) k = record {
    held = refl;
    at = λ h rest.
        let m = number_at h r 0 x k.readings.0 in
        let n = number_at h s 0 y k.readings.1.0 in
        λ i. go (H h) (IntValue (compare_long_of (m i) (n i)) ∷ rest);
  }
  asked_cells_right cell.CompareNumbers (given.Four (Ref r) b x y) k = record { held = refl; at = λ h rest. refl }
  asked_cells_right cell.CompareNumbers (given.Four a b x y) k = record { held = refl; at = λ h rest. refl }
  asked_cells_right cell.CompareNumbers call k = cc k.given.count
  asked_cells_right cell.CompareOrdinals given.Illegal k = record { held = refl; at = λ h rest. refl }
  asked_cells_right cell.CompareOrdinals (given.Four (Ref r) (Ref s) x y) k = record {
    held = refl;
    at = λ h rest.
        let m = number_at h r 1 x k.readings.0 in
        let n = number_at h s 1 y k.readings.1.0 in
        λ i. go (H h) (IntValue (int_wrapping_sub w32 (m i) (n i)) ∷ rest);
  }
  asked_cells_right cell.CompareOrdinals (given.Four (Ref r) b x y) k = record { held = refl; at = λ h rest. refl }
  asked_cells_right cell.CompareOrdinals (given.Four a b x y) k = record { held = refl; at = λ h rest. refl }
  asked_cells_right cell.CompareOrdinals call k = cc k.given.count
