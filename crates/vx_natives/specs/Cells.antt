-- Cells that are put behind the values of a call, at one configuration.
use Rattle.std.specs.Prelude.{◌≡◌, ℕ, Bool, true, List}
use Rattle.vx_cells.specs.declared.place.Place.{Place}
use Rattle.vx_cells.specs.declared.place.Place.TheVariants as place
use Rattle.vx_cond.specs.Cond.{Conditional}
use Rattle.vx_heap.specs.Heap.{HeapView, are_held, globals_at, name_at}
use Rattle.vx_java.specs.Machine.{Value, no_object}
use Rattle.vx_java.specs.Machine.{Top as TopValue}
use Rattle.vx_list.specs.Places.{item_or}
use Rattle.vx_space.specs.Sets.{Sets}
use Rattle.vx_value.specs.declared.slot.Slot.{Slot}
use Rattle.vx_value.specs.declared.slot.Slot.TheVariants.{Ref}
use Rattle.vx_natives.specs.Calls.{call_at, values_of}
use Rattle.vx_natives.specs.declared.call.Call.{Call}

-- where a cell is of the object that a slot names
abbrev pub place_of : Slot → (cell : ℕ) → Place
place_of (Ref r) cell = place.At r cell
place_of _ cell = place.Null

-- its plain value
abbrev pub cell_of : {S I : Type 0} → Sets I → HeapView S I → List Bool → (object : Slot) → (cell : ℕ) → Value
cell_of sets heap c (Ref r) cell = item_or (item_or (globals_at sets heap c).objects (name_at sets heap.objects c r) no_object).cells cell TopValue
cell_of sets heap c _ cell = TopValue

-- the values of calls name what is there
pub record AreCallsHeld {S I : Type 0} (sets : Sets I) (heap : HeapView S I) (calls : Conditional Call S I) : Type 0 where
  pub held : (c : List Bool) → sets.test calls.scope c ≡ true → are_held sets heap c (values_of (call_at sets calls c)) ≡ true

-- the plain cells of an object
abbrev pub cells_of : {S I : Type 0} → Sets I → HeapView S I → List Bool → (object : ℕ) → List Value
cells_of sets heap c r = (item_or (globals_at sets heap c).objects (name_at sets heap.objects c r) no_object).cells
