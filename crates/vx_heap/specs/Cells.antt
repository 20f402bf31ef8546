-- The cells of an object at a configuration at which it is there, and what holds of them over a space (own).
use Rattle.std.specs.Prelude.{◌≡◌, ℕ, Bool, true, false, List, [], ◌∷◌, length, map, slice_set}
use Rattle.vx_value.specs.declared.slot.Slot.{Slot}
use Rattle.vx_value.specs.Slot.{slot_cmp}
use Rattle.vx_space.specs.Sets.{Sets}
use Rattle.vx_cond.specs.Cond.{Conditional, IsCond, IsInside, cond_ids}
use Rattle.vx_cond.specs.Slots.{slot_at}
use Rattle.vx_heap.specs.declared.cell_list.Cell.{Cell}
use Rattle.vx_heap.specs.declared.cell_list.Cell.TheVariants.{Differs, Plain}

-- the slot of a cell
abbrev pub cell_slot : {S I : Type 0} → Sets I → List Bool → Cell S I → Slot
cell_slot sets c (Plain slot) = slot
cell_slot sets c (Differs cond) = slot_at sets cond.value c

abbrev pub cells_at : {S I : Type 0} → Sets I → List (Cell S I) → List Bool → List Slot
cells_at sets cells c = map (cell_slot sets c) cells

-- the ids held
abbrev pub cell_ids : {S I : Type 0} → Cell S I → List I
cell_ids (Plain slot) = []
cell_ids (Differs cond) = cond_ids cond.value

-- a value that differs has the presence of the object as its scope
abbrev pub IsCell : {S I : Type 0} → Sets I → (presence : I) → Cell S I → Type 0
IsCell sets presence (Plain slot) = Unit {0}
IsCell sets presence (Differs cond) = IsCond slot_cmp sets cond.value × (cond.value.scope ≡ presence)

-- a cell may be read inside a path
abbrev pub IsCellInside : {S I : Type 0} → Sets I → (path : I) → Cell S I → Type 0
IsCellInside sets path (Plain slot) = Unit {0}
IsCellInside sets path (Differs cond) = IsCond slot_cmp sets cond.value × IsInside sets path cond.value.scope

abbrev pub AreCells : {S I : Type 0} → Sets I → (presence : I) → List (Cell S I) → Type 0
AreCells sets presence [] = Unit {0}
AreCells sets presence (cell ∷ cells) = IsCell sets presence cell × AreCells sets presence cells

-- a cell stands for a conditional value: where it has one leaf alone it is plain
abbrev pub IsCellOf : {S I : Type 0} → Conditional Slot S I → Cell S I → Type 0
IsCellOf cond (Plain slot) = map (λ leaf. leaf.value) cond.leaves ≡ slot ∷ []
IsCellOf cond (Differs made) = made.value ≡ cond

-- a value was written to a cell in its scope
pub record AreWritten {S I : Type 0} (old new : Sets I) (presence : I) (before : List (Cell S I)) (place : ℕ) (value : Conditional Slot S I) (after : List (Cell S I)) : Type 0 where
  pub cells : AreCells new presence after
  pub count : length after ≡ length before
  pub inside : (c : List Bool) → old.test value.scope c ≡ true → cells_at new after c ≡ slice_set (cells_at old before c) place (slot_at old value c)
  pub outside : (c : List Bool) → old.test presence c ≡ true → old.test value.scope c ≡ false → cells_at new after c ≡ cells_at old before c

-- a cell inside a path has the value there that it had
pub record IsCellWithin {S I : Type 0} (old new : Sets I) (path : I) (before after : Cell S I) : Type 0 where
  pub is_cell : IsCell new path after
  pub at : (c : List Bool) → old.test path c ≡ true → cell_slot new c after ≡ cell_slot old c before

-- and so have cells
pub record AreCellsWithin {S I : Type 0} (old new : Sets I) (path : I) (before after : List (Cell S I)) : Type 0 where
  pub cells : AreCells new path after
  pub count : length after ≡ length before
  pub at : (c : List Bool) → old.test path c ≡ true → cells_at new after c ≡ cells_at old before c
