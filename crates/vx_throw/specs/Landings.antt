-- The handlers of a frame for a group, as the leaves of a conditional position, for the inside.
use Rattle.std.specs.Prelude.{◌≡◌, ◌^◌, ℕ, Bool, true, List, None, Option, Some, is_some, nat_lt, unwrap_or, ◌&&◌}
use Rattle.std.specs.List.{list_all}
use Rattle.std.specs.Option.{option_cmp}
use Rattle.std.specs.Ordering.{nat_cmp}
use Rattle.std.specs.declared.cmp.Ordering.{Ordering}
use Rattle.vx_cond.specs.Cond.{Conditional}
use Rattle.vx_cond.specs.Leaves.{value_at}
use Rattle.vx_cond.specs.Slots.{slot_at}
use Rattle.vx_cond.specs.declared.cond.Leaf.{Leaf}
use Rattle.vx_group.specs.Group.{GroupView, path_of}
use Rattle.vx_group_states.specs.Stands.{is_object}
use Rattle.vx_heap.specs.Heap.{HeapView, is_held}
use Rattle.vx_link.specs.declared.program.Program.{Program}
use Rattle.vx_outcome.specs.declared.outcome.Outcome.{Outcome}
use Rattle.vx_ready.specs.Initialising.{GivesWithin}
use Rattle.vx_space.specs.Sets.{Sets}
use Rattle.vx_standing.specs.Attempted.{is_placed}
use Rattle.vx_throw.specs.Flights.{landing_from}
use Rattle.vx_value.specs.declared.slot.Slot.{Slot}

abbrev pub handler_cmp : Option ℕ → Option ℕ → Ordering
handler_cmp = option_cmp nat_cmp

-- the handler by the leaves, and the number of a class, at a configuration
abbrev pub handler_by : {S I : Type 0} → Sets I → List (Leaf (Option ℕ) S I) → List Bool → Option ℕ
handler_by sets handlers c = unwrap_or (value_at sets handlers c) None

abbrev pub number_by : {S I : Type 0} → Sets I → List (Leaf ℕ S I) → List Bool → ℕ
number_by sets numbers c = unwrap_or (value_at sets numbers c) 0

-- a position, and the number of a class, that 32 bits hold
abbrev pub is_short_handler : Option ℕ → Bool
is_short_handler None = true
is_short_handler (Some handler) = nat_lt handler (2 ^ 32)

abbrev pub is_class_number : ℕ → Bool
is_class_number n = nat_lt n (2 ^ 32)

-- a leaf has a handler, and holds a configuration
abbrev pub lands : {S I : Type 0} → Sets I → Leaf (Option ℕ) S I → List Bool → Bool
lands sets leaf c = is_some leaf.value && sets.test leaf.condition c

-- objects that are there, at each configuration of a path
pub record AreObjectsHeld {S I : Type 0} (sets : Sets I) (heap : HeapView S I) (path : I) (objects : Conditional Slot S I) : Type 0 where
  pub object : (c : List Bool) → sets.test path c ≡ true → is_object (slot_at sets objects c) ≡ true
  pub held : (c : List Bool) → sets.test path c ≡ true → is_held sets heap c (slot_at sets objects c) ≡ true

-- Runs of a group, in a set of its configurations, go on at the handlers there, over every heap that has the objects.
pub record AreLanded {S I : Type 0} (old new : Sets I) (group : GroupView S I) (objects : Conditional Slot S I) (handler : List Bool → Option ℕ) (set : List Bool → Bool) (outcomes : List (Outcome S I)) : Type 0 where
  pub placed : list_all is_placed outcomes ≡ true
  pub gives : (p : Program) (heap : HeapView S I) → AreObjectsHeld old heap (path_of group) objects → GivesWithin p (landing_from old objects handler) set old new group outcomes heap
