-- New arrays by their lengths at one configuration (JVMS 6.5).
use Rattle.std.specs.List.{list_any}
use Rattle.std.specs.Prelude.{ℕ, ℤ, Bool, true, List, [], ◌∷◌, ◌++◌, not, option_map, Option, None, Some, if◌then◌else◌, drop, length, map, nat_lt, pos, ◌≡◌, ◌==◌, ◌+◌, ◌-◌, ◌||◌}
use Rattle.vx_cells.specs.Making.{AreAllMade, AreMade, Breaks, Making, Makes, Raises}
use Rattle.vx_cond.specs.Cond.{Conditional}
use Rattle.vx_cond.specs.Row.{Conditionals}
use Rattle.vx_cond.specs.Slots.{slots_at}
use Rattle.vx_group_states.specs.declared.answer.Answer.{Answer}
use Rattle.vx_heap.specs.Changing.{IsChangedIn}
use Rattle.vx_heap.specs.Heap.{Globals, HeapView, globals_at, is_held, name_at}
use Rattle.vx_java.specs.Arrays.{grid, grid_cells}
use Rattle.vx_java.specs.Ids.{as_class}
use Rattle.vx_java.specs.Machine.{length_bound}
use Rattle.vx_link.specs.ClassNames.{core_class}
use Rattle.vx_link.specs.declared.program.Program.{Program}
use Rattle.vx_value.specs.Arithmetic.{natural, negative}
use Rattle.vx_value.specs.declared.slot.Slot.{Slot}
use Rattle.vx_value.specs.declared.slot.Slot.TheVariants.{Int, Long, Ref, Top}
use Rattle.vx_space.specs.Sets.{Sets}
use Rattle.vx_value.specs.declared.ids.ClassId.{ClassId}
use Rattle.vx_arrays.specs.declared.lengths.Refusals.{Refusals}

-- ---- elements

-- what an element that is a primitive type begins with
abbrev pub slot_of_element : ℕ → Slot
slot_of_element element = if (element == 3) || (element == 4) then Top else if element == 6 then Long (pos 0) else Int (pos 0)

-- ---- lengths

-- the classes of what lengths raise
pub record IsRefusals (p : Program) (r : Refusals) : Type 0 where
  pub negative : r.negative.0 ≡ core_class p "java/lang/NegativeArraySizeException"
  pub large : r.large.0 ≡ core_class p "java/lang/OutOfMemoryError"

-- what lengths raise: a negative one anywhere, then any above the bound, or more cells than the bound
abbrev pub refused : Refusals → List ℤ → Option ClassId
refused r lengths =
    if list_any negative lengths then Some r.negative
    else if list_any (nat_lt length_bound) (map natural lengths) || nat_lt length_bound (grid_cells (map natural lengths)) then Some r.large
    else None

-- whether they raise anything
abbrev pub is_refused : List ℤ → Bool
is_refused lengths = list_any negative lengths || list_any (nat_lt length_bound) (map natural lengths) || nat_lt length_bound (grid_cells (map natural lengths))

-- an array may have this length
abbrev pub is_length : ℤ → Bool
is_length n = not (negative n || nat_lt length_bound (natural n))

-- the lengths of slots, the deepest first; none where one is no int
abbrev pub lengths_of : List Slot → Option (List ℤ)
lengths_of [] = Some []
lengths_of (Int n ∷ slots) = option_map (λ ns. n ∷ ns) (lengths_of slots)
lengths_of (slot ∷ slots) = None

-- the same behind others
abbrev pub lengths_behind : List ℤ → List Slot → Option (List ℤ)
lengths_behind lengths slots = option_map (λ more. lengths ++ more) (lengths_of slots)

-- the slots of dimensions on top of the operands, from one of them on, the deepest first
abbrev pub slots_from : {S I : Type 0} → Sets I → Conditionals Slot S I → (dimensions from : ℕ) → List Bool → List Slot
slots_from sets stack dimensions from c = drop (length stack.conds - dimensions + from) (slots_at sets stack c)

-- ---- arrays with their parts

-- an array of these lengths with its parts stands behind the objects that were there
abbrev pub with_grid : Program → (class : ℕ) → List ℕ → Globals → Globals
with_grid p class lengths g = record g { objects = g.objects ++ grid p class lengths (length g.objects) }

-- in the configurations of a set it was made, and an object has its number
pub record IsGridMade {S I : Type 0} (p : Program) (class : ℕ) (lengths : List ℕ) (old new : Sets I) (before after : HeapView S I) (set : List Bool → Bool) (reference : ℕ) : Type 0 where
  pub changed : IsChangedIn old new before after set (λ _. with_grid p class lengths)
  pub name : (c : List Bool) → set c ≡ true → name_at new after.objects c reference ≡ length (globals_at old before c).objects
  pub held : (c : List Bool) → set c ≡ true → is_held new after c (Ref reference) ≡ true

-- what lengths make
abbrev pub grid_made : Program → (class : ℕ) → Option (List ℤ) → Making
grid_made p class None = Breaks
grid_made p class (Some lengths) =
    if list_any negative lengths then Raises (as_class (core_class p "java/lang/NegativeArraySizeException"))
    else if is_refused lengths then Raises (as_class (core_class p "java/lang/OutOfMemoryError"))
    else Makes (grid p class (map natural lengths))

-- at each configuration
abbrev pub grids_made : Program → (class : ℕ) → (lengths : List Bool → Option (List ℤ)) → List Bool → Making
grids_made p class lengths c = grid_made p class (lengths c)

-- in a set the lengths of each configuration make arrays and are answered, and elsewhere the answers stay
abbrev pub AreGridsMade : {S I : Type 0} → Program → (class : ℕ) → (lengths : List Bool → Option (List ℤ)) → (old new : Sets I) → (before after : HeapView S I) → (set : List Bool → Bool) → (answers made : Conditional Answer S I) → Type 0
AreGridsMade p class lengths old new before after set answers made = AreMade (grids_made p class lengths) old new before after set answers made

-- the same in a whole scope, and there are no other answers
abbrev pub AreGridsAnswered : {S I : Type 0} → Program → (class : ℕ) → (lengths : List Bool → Option (List ℤ)) → (old new : Sets I) → (before after : HeapView S I) → (path : I) → (answers : Conditional Answer S I) → Type 0
AreGridsAnswered p class lengths old new before after path answers = AreAllMade (grids_made p class lengths) old new before after path answers
