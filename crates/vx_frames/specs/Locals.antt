-- Values that are put into locals, for the inside (JVMS 2.6.1).
use Rattle.std.specs.Prelude.{◌≡◌, ◌+◌, ◌++◌, ℕ, Bool, true, false, List, [], ◌∷◌, length}
use Rattle.vx_value.specs.declared.slot.Slot.{Slot}
use Rattle.vx_value.specs.declared.slot.Slot.TheVariants.{Top}
use Rattle.vx_value.specs.Slot.{slot_cmp}
use Rattle.vx_space.specs.Sets.{Sets}
use Rattle.vx_cond.specs.declared.cond.Leaf.{Leaf}
use Rattle.vx_cond.specs.Cond.{Conditional}
use Rattle.vx_cond.specs.Row.{Conditionals, IsRow}
use Rattle.vx_cond.specs.Slots.{slot_at, slots_at}
use Rattle.vx_frames.specs.Entering.{arguments_at, is_long, locals_with, slots_in_locals}

-- the value of the first leaf is a long
abbrev pub begins_long : {S I : Type 0} → List (Leaf Slot S I) → Bool
begins_long [] = false
begins_long (leaf ∷ leaves) = is_long leaf.value

-- the locals of a value
abbrev pub locals_of : (long : Bool) → Slot → List Slot
locals_of true slot = slot ∷ Top ∷ []
locals_of false slot = slot ∷ []

-- so many locals were put behind those of a row, with these slots at each configuration
pub record AreAppended {S I : Type 0} (sets : Sets I) (before : Conditionals Slot S I) (count : ℕ) (added : List Bool → List Slot) (after : Conditionals Slot S I) : Type 0 where
  pub scope : after.scope ≡ before.scope
  pub is_row : IsRow slot_cmp sets after
  pub number : length after.conds ≡ length before.conds + count
  pub slots : (c : List Bool) → slots_at sets after c ≡ slots_at sets before c ++ added c

-- the locals of a value were put behind those of a row
abbrev pub IsAppended : {S I : Type 0} → Sets I → Conditionals Slot S I → Conditional Slot S I → Conditionals Slot S I → Type 0
IsAppended sets before value after =
    let long = begins_long value.leaves in
    AreAppended sets before (length (locals_of long Top)) (λ c. locals_of long (slot_at sets value c)) after

-- a row of the locals that values take, for a path
pub record ArePut {S I : Type 0} (sets : Sets I) (path : I) (values : List (Conditional Slot S I)) (row : Conditionals Slot S I) : Type 0 where
  pub scope : row.scope ≡ path
  pub is_row : IsRow slot_cmp sets row
  pub slots : (c : List Bool) → sets.test path c ≡ true → slots_at sets row c ≡ slots_in_locals (arguments_at sets values c)

-- a row of so many locals, which begin with values, for a path; the others can't be read
pub record AreLocals {S I : Type 0} (sets : Sets I) (path : I) (count : ℕ) (values : List (Conditional Slot S I)) (row : Conditionals Slot S I) : Type 0 where
  pub scope : row.scope ≡ path
  pub is_row : IsRow slot_cmp sets row
  pub number : length row.conds ≡ count
  pub slots : (c : List Bool) → sets.test path c ≡ true → slots_at sets row c ≡ locals_with count (arguments_at sets values c)
