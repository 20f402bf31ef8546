-- The rules of local variables for slots, as vx_java has them for values (JVMS 2.6.1), and locals that depend on the configuration.
use Rattle.std.specs.Int.{int_wrapping_add, w32}
use Rattle.std.specs.Prelude.{◌≡◌, ℕ, ℤ, ◌+◌, Bool, true, false, List, length, slice_set, zero, suc, if◌then◌else◌}
use Rattle.vx_list.specs.Places.{item_or}
use Rattle.vx_value.specs.declared.slot.Slot.{Slot}
use Rattle.vx_value.specs.declared.slot.Slot.TheVariants.{Top, Int, Long, Null, Ref}
use Rattle.vx_value.specs.Slot.{slot_cmp}
use Rattle.vx_space.specs.Sets.{Sets}
use Rattle.vx_cond.specs.Row.{Conditionals, IsRow}
use Rattle.vx_cond.specs.Slots.{slots_at}
use Rattle.vx_java.specs.declared.operation.Sort.{Sort}
use Rattle.vx_java.specs.declared.operation.Sort.TheVariants.{Int as IntSort, Long as LongSort, Reference}
use Rattle.vx_group_states.specs.Answering.{operands_at}
use Rattle.vx_group_states.specs.declared.answer.Answer.{Answer}
use Rattle.vx_group_states.specs.declared.answer.Answer.TheVariants.{Illegal, Push}
use Rattle.vx_families.specs.Sorts.{slot_is_of}

-- what a load answers where the local has this slot
abbrev pub loaded : Sort → Slot → Answer
loaded sort slot = if slot_is_of sort slot then Push slot else Illegal

-- the first half of a long cannot be read once its second half is overwritten
abbrev pub unless_long : Slot → Slot
unless_long (Long n) = Top
unless_long slot = slot

abbrev pub without_half : List Slot → ℕ → List Slot
without_half slots zero = slots
without_half slots (suc n) = slice_set slots n (unless_long (item_or slots n Top))

-- a slot of the sort at n; a long takes n + 1 too
abbrev pub stored : Sort → List Slot → ℕ → Slot → List Slot
stored LongSort slots n slot = slice_set (slice_set (without_half slots n) n slot) (n + 1) Top
stored _ slots n slot = slice_set (without_half slots n) n slot

-- an int with a number added, and another slot as it is
abbrev pub increased : ℤ → Slot → Slot
increased by (Int n) = Int (int_wrapping_add w32 n by)
increased by slot = slot

-- locals that have these slots at each configuration of their scope, in place of others
pub record AreLocals {S I : Type 0} (old new : Sets I) (before : Conditionals Slot S I) (slots : List Bool → List Slot) (after : Conditionals Slot S I) : Type 0 where
  pub is_row : IsRow slot_cmp new after
  pub scope : after.scope ≡ before.scope
  pub count : length after.conds ≡ length before.conds
  pub at : (c : List Bool) → old.test before.scope c ≡ true → slots_at new after c ≡ slots c

-- the operand on top at a configuration
abbrev pub top_at : {S I : Type 0} → Sets I → Conditionals Slot S I → List Bool → Slot
top_at sets stack c = item_or (operands_at sets stack c) 0 Top
