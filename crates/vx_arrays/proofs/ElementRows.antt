-- Where instructions of arrays find an element by slots is where their rows find it by the plain values.
use Rattle.std.proofs.Common.{◌≡◌, ℕ, ℤ, Bool, true, false, List, ◌∷◌, refl, sym, ◌∙◌, ◌≤◌, ap, arith, if◌then◌else◌, min, pos}
use Rattle.std.specs.Fmt.{signed_decimal}
use Rattle.std.specs.Prelude.{Option, None, Some, ◌&&◌, is_some}
use Rattle.vx_cells.proofs.ObjectClasses.{class_some, class_there, length_there}
use Rattle.vx_cells.specs.Classes.{has_class}
use Rattle.vx_cells.specs.Places.{place_if}
use Rattle.vx_cells.specs.Through.{by_place}
use Rattle.vx_cells.specs.declared.place.Place.TheVariants as place
use Rattle.vx_families.proofs.SlotSorts.{same_sort}
use Rattle.vx_families.specs.Sorts.{slot_is_of}
use Rattle.vx_group_states.specs.Answering.{answered}
use Rattle.vx_group_states.specs.declared.answer.Answer.TheVariants as answer
use Rattle.vx_heap.specs.Heap.{HeapView, class_at_slot, is_held, name_at, object_in, objects_at, value_of}
use Rattle.vx_java.specs.Arrays.{array_length, element_sort, is_array_of, load_element, may_store, store_element, value_kept}
use Rattle.vx_java.specs.Checks.{is_of, is_within, width_of_sort}
use Rattle.vx_java.specs.Machine.{Go, Here, Object, Outcome, Raise, Value, cell_at, go, has_room, illegal, length_bound, no_object, past, raise, raise_with, when, with_cell}
use Rattle.vx_java.specs.Machine.{Int as IntValue}
use Rattle.vx_java.specs.declared.operation.Element.{Element}
use Rattle.vx_java.specs.declared.operation.Element.TheVariants.{Bytes, Chars, Ints, Longs, References, Shorts}
use Rattle.vx_link.specs.Assignability.{assignable}
use Rattle.vx_link.specs.ClassNames.{component_of, core_class, is_array}
use Rattle.vx_link.specs.declared.program.Program.{Program}
use Rattle.vx_list.specs.Places.{item_or}
use Rattle.vx_space.specs.Sets.{Sets}
use Rattle.vx_value.specs.Arithmetic.{natural}
use Rattle.vx_value.specs.declared.ids.ClassId.{ClassId}
use Rattle.vx_value.specs.declared.slot.Slot.{Slot}
use Rattle.vx_value.specs.declared.slot.Slot.TheVariants.{Top, Int, Long, Null, Ref, Text}
use Rattle.vx_arrays.specs.Elements.{element_place, is_array_at, kept, length_value, may_be, may_have, measured, place_for, stored_place}

module _ {S I : Type 0} (sets : Sets I) (heap : HeapView S I) (c : List Bool) (h : Here) (over : h.state.heap ≡ objects_at sets heap c) where
  -- the plain object of a number
  abbrev plain : ℕ → Object
  plain r = item_or h.state.heap (name_at sets heap.objects c r) no_object

  class_is : (test : ℕ → Bool) (r : ℕ) → is_held sets heap c (Ref r) ≡ true → has_class test (class_at_slot heap (Ref r)) ≡ test (plain r).class
  class_is test r t = class_there test sets heap c r t ∙ ap (λ objects. test (item_or objects (name_at sets heap.objects c r) no_object).class) (sym over)

  length_is : (r : ℕ) → is_held sets heap c (Ref r) ≡ true → (object_in heap r).length ≡ (plain r).size
  length_is r t = length_there sets heap c r t ∙ ap (λ objects. (item_or objects (name_at sets heap.objects c r) no_object).size) (sym over)

  no_place : (next : ℕ → ℕ → Outcome) (b : Bool) → by_place sets heap c h next (place_if place.Illegal b) ≡ illegal h
  no_place next true = refl
  no_place next false = refl

  null_place : (next : ℕ → ℕ → Outcome) (b : Bool) → by_place sets heap c h next (place_if place.Null b) ≡ when b (raise h "java/lang/NullPointerException") (illegal h)
  null_place next true = refl
  null_place next false = refl

  -- ---- loads

  abbrev outside : ℤ → Outcome
  outside i = raise_with h "java/lang/ArrayIndexOutOfBoundsException" (signed_decimal i)

  element_cell : (next : ℕ → ℕ → Outcome) (r : ℕ) (i : ℤ) (a b w : Bool) → by_place sets heap c h next (place_if (if a then (if w then place.At r (natural i) else place.Outside i) else place.Illegal) b) ≡ when (a && b) (when w (next (name_at sets heap.objects c r) (natural i)) (outside i)) (illegal h)
  element_cell next r i true true true = refl
  element_cell next r i true true false = refl
  element_cell next r i true false true = refl
  element_cell next r i true false false = refl
  element_cell next r i false true w = refl
  element_cell next r i false false w = refl

  abbrev loaded : List Value → ℕ → ℕ → Outcome
  loaded rest r k = go h (cell_at h.state r k ∷ rest)

  pub load_row : (e : Element) (rest : List Value) (room : Bool) (index array : Slot) → is_held sets heap c array ≡ true → room ≡ has_room h (width_of_sort (element_sort e)) rest → by_place sets heap c h (loaded rest) (place_if (element_place h.program heap e index array) room) ≡ load_element h e (value_of sets heap c index ∷ value_of sets heap c array ∷ rest)
  load_row e rest room Top array t q = no_place (loaded rest) room
  load_row e rest room (Long n) array t q = no_place (loaded rest) room
  load_row e rest room Null array t q = no_place (loaded rest) room
  load_row e rest room (Ref n) array t q = no_place (loaded rest) room
  load_row e rest room (Text n) array t q = no_place (loaded rest) room
  load_row e rest room (Int i) Top t q = no_place (loaded rest) room
  load_row e rest room (Int i) (Int n) t q = no_place (loaded rest) room
  load_row e rest room (Int i) (Long n) t q = no_place (loaded rest) room
  load_row e rest room (Int i) (Text n) t q = no_place (loaded rest) room
  load_row e rest room (Int i) Null t q = null_place (loaded rest) room ∙ ap (λ b. when b (raise h "java/lang/NullPointerException") (illegal h)) q
  load_row e rest room (Int i) (Ref r) t q =
      element_cell (loaded rest) r i (is_array_at h.program heap e (Ref r)) room (is_within i (object_in heap r).length)
      ∙ (let class = class_is (is_array_of h.program e) r t in
      let size = length_is r t in
      λ j. when (class j && q j) (when (is_within i (size j)) (loaded rest (name_at sets heap.objects c r) (natural i)) (outside i)) (illegal h))

  -- ---- stores

  -- an array may have a value, by both
  both_classes : (p : Program) (v a : Option ClassId) → is_some v ≡ true → is_some a ≡ true → may_be p v a ≡ has_class (λ class. has_class (λ array. assignable p class (component_of p array)) a) v
  both_classes p None a s t = cc s
  both_classes p (Some v) None s t = cc t
  both_classes p (Some v) (Some a) s t = refl

  may_row : (e : Element) (r : ℕ) (value : Slot) → is_held sets heap c (Ref r) ≡ true → is_held sets heap c value ≡ true → may_have h.program heap e r value ≡ may_store h e (name_at sets heap.objects c r) (value_of sets heap c value)
  may_row Ints r value t s = refl
  may_row Longs r value t s = refl
  may_row Bytes r value t s = refl
  may_row Chars r value t s = refl
  may_row Shorts r value t s = refl
  may_row References r Top t s = refl
  may_row References r (Int n) t s = refl
  may_row References r (Long n) t s = refl
  may_row References r Null t s = refl
  may_row References r (Text n) t s = refl
  may_row References r (Ref v) t s =
      let array : ℕ → Bool = λ class. has_class (λ a. assignable h.program class (component_of h.program a)) (class_at_slot heap (Ref r)) in
      both_classes h.program (class_at_slot heap (Ref v)) (class_at_slot heap (Ref r)) (class_some sets heap c v s) (class_some sets heap c r t)
      ∙ class_is array v s
      ∙ class_is (λ a. assignable h.program (plain v).class (component_of h.program a)) r t

  abbrev stored : Element → List Value → Value → ℕ → ℕ → Outcome
  stored e rest v r k = Go (past h (with_cell h.state r k (value_kept e v)) rest)

  not_placed : (next : ℕ → ℕ → Outcome) (b : Bool) → by_place sets heap c h next (if b then place.Illegal else place.Illegal) ≡ illegal h
  not_placed next true = refl
  not_placed next false = refl

  null_placed : (next : ℕ → ℕ → Outcome) (b : Bool) → by_place sets heap c h next (if b then place.Null else place.Illegal) ≡ when (b && true) (raise h "java/lang/NullPointerException") (illegal h)
  null_placed next true = refl
  null_placed next false = refl

  when_not : (b : Bool) (x : Outcome) → illegal h ≡ when (b && false) x (illegal h)
  when_not true x = refl
  when_not false x = refl

  abbrev refusal : Outcome
  refusal = raise h "java/lang/ArrayStoreException"

  stored_cell : (e : Element) (value : Slot) (next : ℕ → ℕ → Outcome) (r : ℕ) (i : ℤ) (f a w m : Bool) → may_have h.program heap e r value ≡ m → by_place sets heap c h next (if f then place_for h.program heap e value (if a then (if w then place.At r (natural i) else place.Outside i) else place.Illegal) else place.Illegal) ≡ when (f && a) (when w (when m (next (name_at sets heap.objects c r) (natural i)) refusal) (outside i)) (illegal h)
  stored_cell e value next r i true true true true k = ap (λ b. by_place sets heap c h next (if b then place.At r (natural i) else place.Refused)) k
  stored_cell e value next r i true true true false k = ap (λ b. by_place sets heap c h next (if b then place.At r (natural i) else place.Refused)) k
  stored_cell e value next r i true true false m k = refl
  stored_cell e value next r i true false w m k = refl
  stored_cell e value next r i false a w m k = refl

  pub store_row : (e : Element) (rest : List Value) (value index array : Slot) → is_held sets heap c value ≡ true → is_held sets heap c array ≡ true → by_place sets heap c h (stored e rest (value_of sets heap c value)) (stored_place h.program heap e value (element_place h.program heap e index array)) ≡ store_element h e (value_of sets heap c value ∷ value_of sets heap c index ∷ value_of sets heap c array ∷ rest)
  store_row e rest value Top array s t = not_placed (stored e rest (value_of sets heap c value)) (slot_is_of (element_sort e) value)
  store_row e rest value (Long n) array s t = not_placed (stored e rest (value_of sets heap c value)) (slot_is_of (element_sort e) value)
  store_row e rest value Null array s t = not_placed (stored e rest (value_of sets heap c value)) (slot_is_of (element_sort e) value)
  store_row e rest value (Ref n) array s t = not_placed (stored e rest (value_of sets heap c value)) (slot_is_of (element_sort e) value)
  store_row e rest value (Text n) array s t = not_placed (stored e rest (value_of sets heap c value)) (slot_is_of (element_sort e) value)
  store_row e rest value (Int i) Top s t = not_placed (stored e rest (value_of sets heap c value)) (slot_is_of (element_sort e) value) ∙ when_not (is_of (element_sort e) (value_of sets heap c value)) _
  store_row e rest value (Int i) (Int n) s t = not_placed (stored e rest (value_of sets heap c value)) (slot_is_of (element_sort e) value) ∙ when_not (is_of (element_sort e) (value_of sets heap c value)) _
  store_row e rest value (Int i) (Long n) s t = not_placed (stored e rest (value_of sets heap c value)) (slot_is_of (element_sort e) value) ∙ when_not (is_of (element_sort e) (value_of sets heap c value)) _
  store_row e rest value (Int i) (Text n) s t = not_placed (stored e rest (value_of sets heap c value)) (slot_is_of (element_sort e) value) ∙ when_not (is_of (element_sort e) (value_of sets heap c value)) _
  store_row e rest value (Int i) Null s t =
      null_placed (stored e rest (value_of sets heap c value)) (slot_is_of (element_sort e) value)
      ∙ ap (λ b. when (b && true) (raise h "java/lang/NullPointerException") (illegal h)) (sym (same_sort sets heap c (element_sort e) value))
  store_row e rest value (Int i) (Ref r) s t =
      stored_cell e value (stored e rest (value_of sets heap c value)) r i (slot_is_of (element_sort e) value) (is_array_at h.program heap e (Ref r)) (is_within i (object_in heap r).length) (may_have h.program heap e r value) refl
      ∙ (let sort = sym (same_sort sets heap c (element_sort e) value) in
      let class = class_is (is_array_of h.program e) r t in
      let size = length_is r t in
      let may = may_row e r value t s in
      λ j. when (sort j && class j) (when (is_within i (size j)) (when (may j) (stored e rest (value_of sets heap c value) (name_at sets heap.objects c r) (natural i)) refusal) (outside i)) (illegal h))

  -- what a store keeps
  pub kept_row : (e : Element) (slot : Slot) → value_of sets heap c (kept e slot) ≡ value_kept e (value_of sets heap c slot)
  kept_row Ints slot = refl
  kept_row Longs slot = refl
  kept_row References slot = refl
  kept_row Bytes Top = refl
  kept_row Bytes (Int n) = refl
  kept_row Bytes (Long n) = refl
  kept_row Bytes Null = refl
  kept_row Bytes (Ref r) = refl
  kept_row Bytes (Text n) = refl
  kept_row Chars Top = refl
  kept_row Chars (Int n) = refl
  kept_row Chars (Long n) = refl
  kept_row Chars Null = refl
  kept_row Chars (Ref r) = refl
  kept_row Chars (Text n) = refl
  kept_row Shorts Top = refl
  kept_row Shorts (Int n) = refl
  kept_row Shorts (Long n) = refl
  kept_row Shorts Null = refl
  kept_row Shorts (Ref r) = refl
  kept_row Shorts (Text n) = refl

  -- ---- lengths

  pub length_row : (null : ClassId) (rest : List Value) (room : Bool) (slot : Slot) → ((r : ℕ) → (object_in heap r).length ≤ length_bound) → null.0 ≡ core_class h.program "java/lang/NullPointerException" → is_held sets heap c slot ≡ true → room ≡ has_room h 1 rest → answered sets heap c h rest (measured h.program heap null slot room) ≡ array_length h (value_of sets heap c slot ∷ rest)
  length_row null rest room Top short e t q = refl
  length_row null rest room (Int n) short e t q = refl
  length_row null rest room (Long n) short e t q = refl
  length_row null rest room (Text n) short e t q = refl
  length_row null rest room Null short e t q = cases room ∙ ap (λ b. when b (raise h "java/lang/NullPointerException") (illegal h)) q
    where
      cases : (b : Bool) → answered sets heap c h rest (measured h.program heap null Null b) ≡ when b (raise h "java/lang/NullPointerException") (illegal h)
      cases true = ap (λ k. Raise k None h.state) e
      cases false = refl
  length_row null rest room (Ref r) short e t q =
      cases room (has_class (is_array h.program) (class_at_slot heap (Ref r))) refl
      ∙ (let class = class_is (is_array h.program) r t in
      let size : min (object_in heap r).length length_bound ≡ (plain r).size = omega (arith, short r) ∙ length_is r t in
      λ j. when (class j && q j) (go h (IntValue (pos (size j)) ∷ rest)) (illegal h))
    where
      cases : (b a : Bool) → has_class (is_array h.program) (class_at_slot heap (Ref r)) ≡ a → answered sets heap c h rest (measured h.program heap null (Ref r) b) ≡ when (a && b) (go h (IntValue (pos (min (object_in heap r).length length_bound)) ∷ rest)) (illegal h)
      cases true true k = ap (λ x. answered sets heap c h rest (if x then answer.Give (length_value heap r) else answer.Illegal)) k
      cases true false k = ap (λ x. answered sets heap c h rest (if x then answer.Give (length_value heap r) else answer.Illegal)) k
      cases false true k = refl
      cases false false k = refl
