-- Where getfield and putfield find a cell by slots is where their rows find it by the plain values.
use Rattle.std.proofs.Common.{◌≡◌, ℕ, ◌+◌, ◌≤◌, ◌<◌, Bool, true, false, List, [], ◌∷◌, refl, sym, ◌∙◌, ap, arith, drop, length, map, if◌then◌else◌}
use Rattle.std.specs.Prelude.{◌&&◌, nat_le}
use Rattle.vx_cells.specs.Places.{place_if}
use Rattle.vx_cells.specs.Through.{by_place}
use Rattle.vx_cells.specs.declared.place.Place.TheVariants as place
use Rattle.vx_families.proofs.Sizes.{plain_size}
use Rattle.vx_families.proofs.SlotSorts.{fits_plain}
use Rattle.vx_group_states.specs.Widths.{slots_size}
use Rattle.vx_group_states.proofs.Operands.{item_held}
use Rattle.vx_heap.specs.Heap.{HeapView, are_held, is_held, name_at, objects_at, value_of}
use Rattle.vx_java.specs.Checks.{fits_type, sort_of, width_of_type}
use Rattle.vx_java.specs.Fields.{Found, cell_of, get_from, put_into}
use Rattle.vx_java.specs.FirstObjects.{narrowed_value}
use Rattle.vx_java.specs.Machine.{Go, Here, Outcome, Value, cell_at, go, has_room, illegal, past, raise, when, with_cell}
use Rattle.vx_list.specs.Places.{item_or}
use Rattle.vx_objects.proofs.Rows.{instance_is}
use Rattle.vx_objects.specs.Answers.{field_place, is_instance, stored_place}
use Rattle.vx_space.specs.Sets.{Sets}
use Rattle.vx_value.specs.declared.slot.Slot.{Slot}
use Rattle.vx_value.specs.declared.slot.Slot.TheVariants.{Top, Int, Long, Null, Ref, Text}

module _ {S I : Type 0} (sets : Sets I) (heap : HeapView S I) (c : List Bool) (h : Here) (over : h.state.heap ≡ objects_at sets heap c) (found : Found) where
  -- a place with a rule, by both
  no_place : (next : ℕ → ℕ → Outcome) (b : Bool) → by_place sets heap c h next (place_if place.Illegal b) ≡ illegal h
  no_place next true = refl
  no_place next false = refl

  null_place : (next : ℕ → ℕ → Outcome) (b : Bool) → by_place sets heap c h next (place_if place.Null b) ≡ when b (raise h "java/lang/NullPointerException") (illegal h)
  null_place next true = refl
  null_place next false = refl

  field_cell : (next : ℕ → ℕ → Outcome) (r cell : ℕ) (a b : Bool) → by_place sets heap c h next (place_if (if a then place.At r cell else place.Illegal) b) ≡ when (a && b) (next (name_at sets heap.objects c r) cell) (illegal h)
  field_cell next r cell true true = refl
  field_cell next r cell true false = refl
  field_cell next r cell false true = refl
  field_cell next r cell false false = refl

  -- ---- getfield

  abbrev pub got : List Value → ℕ → ℕ → Outcome
  got rest r cell = go h (cell_at h.state r cell ∷ rest)

  one_read : (rest : List Value) (room : Bool) (slot : Slot) → is_held sets heap c slot ≡ true → room ≡ has_room h (width_of_type found.type) rest → by_place sets heap c h (got rest) (place_if (field_place h.program heap found.named (cell_of h found) slot) room) ≡ get_from h found (value_of sets heap c slot ∷ rest)
  one_read rest room Top t e = no_place (got rest) room
  one_read rest room (Int n) t e = no_place (got rest) room
  one_read rest room (Long n) t e = no_place (got rest) room
  one_read rest room Null t e = null_place (got rest) room ∙ ap (λ b. when b (raise h "java/lang/NullPointerException") (illegal h)) e
  one_read rest room (Ref r) t e =
      field_cell (got rest) r (cell_of h found) (is_instance h.program heap found.named (Ref r)) room
      ∙ (let is = instance_is sets heap c h over found.named r t in λ i. when (is i && e i) (got rest (name_at sets heap.objects c r) (cell_of h found)) (illegal h))
  one_read rest room (Text n) t e = no_place (got rest) room

  pub read_row : (slots : List Slot) → 1 ≤ length slots → are_held sets heap c slots ≡ true → by_place sets heap c h (got (drop 1 (map (value_of sets heap c) slots))) (place_if (field_place h.program heap found.named (cell_of h found) (item_or slots 0 Top)) (nat_le (width_of_type found.type + slots_size (drop 1 slots)) h.code.max_stack)) ≡ get_from h found (map (value_of sets heap c) slots)
  read_row [] some held = absurd (omega (arith, some))
  read_row (slot ∷ rest) some held =
      one_read (map (value_of sets heap c) rest) (nat_le (width_of_type found.type + slots_size rest) h.code.max_stack) slot
      (item_held sets heap c (slot ∷ rest) 0 held)
      (ap (λ n. nat_le (width_of_type found.type + n) h.code.max_stack) (sym (plain_size sets heap c rest)))

  -- ---- putfield

  abbrev pub put : List Value → Value → ℕ → ℕ → Outcome
  put rest v r cell = Go (past h (with_cell h.state r cell (narrowed_value found.type v)) rest)

  and_false : (b : Bool) (x y : Outcome) → when (b && false) x y ≡ y
  and_false true x y = refl
  and_false false x y = refl

  stored_null : (x : Outcome) (b : Bool) → when b x (illegal h) ≡ when (b && true) x (illegal h)
  stored_null x true = refl
  stored_null x false = refl

  stored_cell : (x : Outcome) (a b : Bool) → when (a && b) x (illegal h) ≡ when (b && a) x (illegal h)
  stored_cell x true true = refl
  stored_cell x true false = refl
  stored_cell x false true = refl
  stored_cell x false false = refl

  one_written : (rest : List Value) (value object : Slot) → is_held sets heap c object ≡ true → by_place sets heap c h (put rest (value_of sets heap c value)) (stored_place h.program heap found.named (cell_of h found) (sort_of found.type) value object) ≡ put_into h found (value_of sets heap c value ∷ value_of sets heap c object ∷ rest)
  one_written rest value object t = of_object object t
    where
      of_object : (o : Slot) → is_held sets heap c o ≡ true → by_place sets heap c h (put rest (value_of sets heap c value)) (stored_place h.program heap found.named (cell_of h found) (sort_of found.type) value o) ≡ put_into h found (value_of sets heap c value ∷ value_of sets heap c o ∷ rest)
      of_object Top t = no_place (put rest (value_of sets heap c value)) _ ∙ sym (and_false (fits_type found.type (value_of sets heap c value)) _ (illegal h))
      of_object (Int n) t = no_place (put rest (value_of sets heap c value)) _ ∙ sym (and_false (fits_type found.type (value_of sets heap c value)) _ (illegal h))
      of_object (Long n) t = no_place (put rest (value_of sets heap c value)) _ ∙ sym (and_false (fits_type found.type (value_of sets heap c value)) _ (illegal h))
      of_object Null t =
          null_place (put rest (value_of sets heap c value)) _
          ∙ ap (λ b. when b (raise h "java/lang/NullPointerException") (illegal h)) (sym (fits_plain sets heap c (sort_of found.type) value))
          ∙ stored_null (raise h "java/lang/NullPointerException") (fits_type found.type (value_of sets heap c value))
      of_object (Ref r) t =
          field_cell (put rest (value_of sets heap c value)) r (cell_of h found) (is_instance h.program heap found.named (Ref r)) _
          ∙ stored_cell (put rest (value_of sets heap c value) (name_at sets heap.objects c r) (cell_of h found)) (is_instance h.program heap found.named (Ref r)) _
          ∙ (let is = instance_is sets heap c h over found.named r t in let fit = sym (fits_plain sets heap c (sort_of found.type) value) in λ i. when (fit i && is i) (put rest (value_of sets heap c value) (name_at sets heap.objects c r) (cell_of h found)) (illegal h))
      of_object (Text n) t = no_place (put rest (value_of sets heap c value)) _ ∙ sym (and_false (fits_type found.type (value_of sets heap c value)) _ (illegal h))

  pub write_row : (slots : List Slot) → 2 ≤ length slots → are_held sets heap c slots ≡ true → by_place sets heap c h (put (drop 2 (map (value_of sets heap c) slots)) (value_of sets heap c (item_or slots 0 Top))) (stored_place h.program heap found.named (cell_of h found) (sort_of found.type) (item_or slots 0 Top) (item_or slots 1 Top)) ≡ put_into h found (map (value_of sets heap c) slots)
  write_row [] some held = absurd (omega (arith, some))
  write_row (value ∷ []) some held = absurd (omega (arith, some))
  write_row (value ∷ object ∷ rest) some held = one_written (map (value_of sets heap c) rest) value object (item_held sets heap c (value ∷ object ∷ rest) 1 held)

-- ---- too few operands

pub read_none : (h : Here) (found : Found) (operands : List Value) → length operands < 1 → illegal h ≡ get_from h found operands
read_none h found [] few = refl
read_none h found (v ∷ rest) few = absurd (omega (arith, few))

pub write_none : (h : Here) (found : Found) (operands : List Value) → length operands < 2 → illegal h ≡ put_into h found operands
write_none h found [] few = refl
write_none h found (v ∷ []) few = refl
write_none h found (v ∷ w ∷ rest) few = absurd (omega (arith, few))
