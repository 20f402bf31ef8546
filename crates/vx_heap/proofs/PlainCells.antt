-- Cells that have one value wherever their object is there.
use Rattle.std.proofs.Common.{◌≡◌, ℕ, zero, suc, Bool, true, false, List, [], ◌∷◌, refl, ap, arith, map, length, if◌then◌else◌}
use Rattle.std.proofs.lemmas.Bool.{ltb-true}
use Rattle.std.specs.List.{flat_map, list_all}
use Rattle.std.specs.Prelude.{replicate}
use Rattle.vx_value.specs.declared.slot.Slot.{Slot}
use Rattle.vx_value.specs.declared.slot.Slot.TheVariants.{Top, Int, Long, Null, Ref, Text}
use Rattle.vx_space.specs.Sets.{Sets}
use Rattle.vx_initial_heap.specs.First.{is_among, value_in}
use Rattle.vx_heap.specs.Cells.{AreCells, cell_ids, cells_at}
use Rattle.vx_heap.specs.declared.cell_list.Cell.{Cell}
use Rattle.vx_heap.specs.declared.cell_list.Cell.TheVariants.{Plain}
use Rattle.vx_heap.specs.Heap.{HeapView, are_held, is_held, value_of}
use Rattle.vx_heap.proofs.Places.{and_true, both_true}

-- ---- lists of such cells

pub AreCells-plain : {I : Type 0} (S : Type 0) (sets : Sets I) (presence : I) (slots : List Slot) → AreCells {S = S} sets presence (map Plain slots)
AreCells-plain S sets presence [] = tt
AreCells-plain S sets presence (slot ∷ slots) = (tt, AreCells-plain S sets presence slots)

pub cells_at-plain : {I : Type 0} (S : Type 0) (sets : Sets I) (c : List Bool) (slots : List Slot) → cells_at {S = S} sets (map Plain slots) c ≡ slots
cells_at-plain S sets c [] = refl
cells_at-plain S sets c (slot ∷ slots) = ap (λ rest. slot ∷ rest) (cells_at-plain S sets c slots)

pub ids-plain : {I : Type 0} (S : Type 0) (slots : List Slot) → flat_map (cell_ids {S = S} {I = I}) (map Plain slots) ≡ []
ids-plain S [] = refl
ids-plain S (slot ∷ slots) = ids-plain S slots

pub ids-filled : {I : Type 0} (S : Type 0) (n : ℕ) (slot : Slot) → flat_map (cell_ids {S = S} {I = I}) (replicate n (Plain slot)) ≡ []
ids-filled S zero slot = refl
ids-filled S (suc n) slot = ids-filled S n slot

pub plain_replicate : (S I : Type 0) (n : ℕ) (slot : Slot) → ◌≡◌ {A = List (Cell S I)} (replicate n (Plain slot)) (map Plain (replicate n slot))
plain_replicate S I zero slot = refl
plain_replicate S I (suc n) slot = ap (λ rest. Plain slot ∷ rest) (plain_replicate S I n slot)

-- ---- slots that name no object

module _ {S I : Type 0} (sets : Sets I) (heap : HeapView S I) (c : List Bool) where
  pub value_plain : (slot : Slot) → is_among 0 (length heap.texts) slot ≡ true → value_of sets heap c slot ≡ value_in heap.texts slot
  value_plain Top h = refl
  value_plain (Int n) h = refl
  value_plain (Long n) h = refl
  value_plain Null h = refl
  value_plain (Ref i) h = absurd (omega (arith, ltb-true i 0 h))
  value_plain (Text n) h = refl

  pub held_plain : (slot : Slot) → is_among 0 (length heap.texts) slot ≡ true → is_held sets heap c slot ≡ true
  held_plain Top h = refl
  held_plain (Int n) h = refl
  held_plain (Long n) h = refl
  held_plain Null h = refl
  held_plain (Ref i) h = absurd (omega (arith, ltb-true i 0 h))
  held_plain (Text n) h = h

  pub values_plain : (slots : List Slot) → list_all (is_among 0 (length heap.texts)) slots ≡ true → map (value_of sets heap c) slots ≡ map (value_in heap.texts) slots
  values_plain [] h = refl
  values_plain (slot ∷ slots) h =
      let parts = both_true (is_among 0 (length heap.texts) slot) (list_all (is_among 0 (length heap.texts)) slots) h in
      λ i. value_plain slot parts.0 i ∷ values_plain slots parts.1 i

  pub are_held_plain : (slots : List Slot) → list_all (is_among 0 (length heap.texts)) slots ≡ true → are_held sets heap c slots ≡ true
  are_held_plain [] h = refl
  are_held_plain (slot ∷ slots) h =
      let parts = both_true (is_among 0 (length heap.texts) slot) (list_all (is_among 0 (length heap.texts)) slots) h in
      and_true (is_held sets heap c slot) (are_held sets heap c slots) (held_plain slot parts.0) (are_held_plain slots parts.1)

-- a test that passes in any case
pub holds_anyway : (b x : Bool) → x ≡ true → (if b then x else true) ≡ true
holds_anyway true x h = h
holds_anyway false x h = refl
