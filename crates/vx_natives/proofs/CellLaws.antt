-- Cells that were read for calls, at one configuration.
use Rattle.std.proofs.Common.{◌≡◌, ℕ, Bool, true, false, List, [], ◌∷◌, refl, sym, ◌∙◌, ap, if◌then◌else◌}
use Rattle.std.specs.Prelude.{◌&&◌}
use Rattle.vx_cells.specs.Through.{IsGivenWhereCell, is_place_held}
use Rattle.vx_group_states.specs.Answering.{slot_by}
use Rattle.vx_group_states.specs.declared.answer.Answer.{Answer}
use Rattle.vx_group_states.specs.declared.answer.Answer.TheVariants as answer
use Rattle.vx_heap.proofs.HeapLaws.{globals_at-extends, is_held-extends, name_at-extends, value_of-extends}
use Rattle.vx_heap.specs.Heap.{HeapView, IsHeap, are_held, is_held, value_of}
use Rattle.vx_java.specs.Machine.{no_object}
use Rattle.vx_java.specs.Machine.{Top as TopValue}
use Rattle.vx_list.specs.Places.{item_or}
use Rattle.vx_space.specs.Sets.{Extends, Sets}
use Rattle.vx_value.specs.declared.slot.Slot.{Slot}
use Rattle.vx_value.specs.declared.slot.Slot.TheVariants.{Int, Long, Null, Ref, Text, Top}
use Rattle.vx_natives.specs.Calls.{value_of_call, values_of}
use Rattle.vx_natives.specs.Cells.{cell_of, place_of}
use Rattle.vx_natives.specs.Readings.{value_among}
use Rattle.vx_natives.specs.declared.call.Call.{Call}
use Rattle.vx_natives.specs.declared.call.Call.TheVariants as given

-- ---- the first value and the second

first : (a b : Bool) → (a && b) ≡ true → a ≡ true
first true b t = refl
first false b t = cc

second : (a b : Bool) → (a && b) ≡ true → b ≡ true
second true b t = t
second false b t = cc

module _ {S I : Type 0} (sets : Sets I) (heap : HeapView S I) (c : List Bool) where
  either_held : (is_second : Bool) (a b : Slot) (rest : List Slot) → are_held sets heap c (a ∷ b ∷ rest) ≡ true → is_held sets heap c (if is_second then b else a) ≡ true
  either_held true a b rest t = first (is_held sets heap c b) (are_held sets heap c rest) (second (is_held sets heap c a) (are_held sets heap c (b ∷ rest)) t)
  either_held false a b rest t = first (is_held sets heap c a) (are_held sets heap c (b ∷ rest)) t

  one_held : (is_second : Bool) (a : Slot) → are_held sets heap c (a ∷ []) ≡ true → is_held sets heap c (if is_second then Top else a) ≡ true
  one_held true a t = refl
  one_held false a t = first (is_held sets heap c a) true t

  pub value_held : (is_second : Bool) (call : Call) → are_held sets heap c (values_of call) ≡ true → is_held sets heap c (value_of_call is_second call) ≡ true
  value_held is_second given.Illegal t = refl
  value_held is_second given.Nothing t = refl
  value_held is_second (given.One a) t = one_held is_second a t
  value_held is_second (given.Two a b) t = either_held is_second a b [] t
  value_held is_second (given.Three a b d) t = either_held is_second a b (d ∷ []) t
  value_held is_second (given.Four a b d e) t = either_held is_second a b (d ∷ e ∷ []) t
  value_held is_second (given.Five a b d e f) t = either_held is_second a b (d ∷ e ∷ f ∷ []) t

  pub place_is_held : (object : Slot) (cell : ℕ) → is_held sets heap c object ≡ true → is_place_held sets heap c (place_of object cell) ≡ true
  place_is_held (Ref r) cell t = t
  place_is_held Top cell t = refl
  place_is_held (Int n) cell t = refl
  place_is_held (Long n) cell t = refl
  place_is_held Null cell t = refl
  place_is_held (Text n) cell t = refl

-- ---- a cell that was read

module _ {S I : Type 0} {s1 s2 : Sets I} (e : Extends s1 s2) (heap : HeapView S I) (v : IsHeap s1 heap) (c : List Bool) (cell : ℕ) (a : Answer) where
  -- its value is given, over a later space
  abbrev pub IsGiven : Slot → Type 0
  IsGiven object = (value_of s2 heap c (slot_by a) ≡ cell_of s2 heap c object cell) × (is_held s2 heap c (slot_by a) ≡ true)

  none_given : (object : Slot) → a ≡ answer.Pass → TopValue ≡ cell_of s2 heap c object cell → IsGiven object
  none_given object q w = (ap (λ b. value_of s2 heap c (slot_by b)) q ∙ w, ap (λ b. is_held s2 heap c (slot_by b)) q)

  pub cell_given : (object : Slot) → IsGivenWhereCell s1 heap c (place_of object cell) answer.Pass a → IsGiven object
  cell_given (Ref r) h = (
    ap (λ b. value_of s2 heap c (slot_by b)) h.is
        ∙ value_of-extends e heap v c h.slot
        ∙ h.value
        ∙ (
        let globals = globals_at-extends e heap v c in
        let name = name_at-extends e heap v c r in
        λ i. item_or (item_or ((sym globals i).objects) (sym name i) no_object).cells cell TopValue),
    ap (λ b. is_held s2 heap c (slot_by b)) h.is ∙ is_held-extends e heap v c h.slot ∙ h.held,
  )
  cell_given Top h = none_given Top h refl
  cell_given (Int n) h = none_given (Int n) h refl
  cell_given (Long n) h = none_given (Long n) h refl
  cell_given Null h = none_given Null h refl
  cell_given (Text n) h = none_given (Text n) h refl

-- the first value and the second, as values of a list
pub value_is : (is_second : Bool) (call : Call) → value_of_call is_second call ≡ value_among is_second (values_of call)
value_is true given.Illegal = refl
value_is false given.Illegal = refl
value_is true given.Nothing = refl
value_is false given.Nothing = refl
value_is true (given.One a) = refl
value_is false (given.One a) = refl
value_is true (given.Two a b) = refl
value_is false (given.Two a b) = refl
value_is true (given.Three a b d) = refl
value_is false (given.Three a b d) = refl
value_is true (given.Four a b d e) = refl
value_is false (given.Four a b d e) = refl
value_is true (given.Five a b d e f) = refl
value_is false (given.Five a b d e f) = refl
