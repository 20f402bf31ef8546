-- The arguments of a call among the operands of a group (JVMS 2.6.2, 6.5).
use Rattle.std.specs.Prelude.{◌≡◌, ℕ, Bool, true, false, List, [], ◌∷◌, ◌&&◌, length, reverse, take}
use Rattle.vx_class.specs.Members.{STATIC}
use Rattle.vx_desc.specs.declared.java_type.JavaType.{JavaType}
use Rattle.vx_families.specs.Sorts.{slot_fits}
use Rattle.vx_group.specs.Group.{GroupView}
use Rattle.vx_java.specs.Checks.{sort_of}
use Rattle.vx_link.specs.Parts.{has, method_at}
use Rattle.vx_link.specs.declared.program.Program.{Program}
use Rattle.vx_space.specs.Sets.{Sets}
use Rattle.vx_group_states.specs.Answering.{operands_at}
use Rattle.vx_value.specs.declared.slot.Slot.{Slot}

-- slots are of the sorts of types, one of each
abbrev pub slots_fit : List JavaType → List Slot → Bool
slots_fit [] slots = true
slots_fit (t ∷ types) [] = false
slots_fit (t ∷ types) (slot ∷ slots) = slot_fits (sort_of t) slot && slots_fit types slots

-- so many operands of a group at a configuration, the deepest first
abbrev pub top_slots : {S I : Type 0} → Sets I → GroupView S I → ℕ → List Bool → List Slot
top_slots sets group count c = reverse (take count (operands_at sets group.top.stack c))

-- the arguments fit at a configuration
abbrev pub arguments_fit : {S I : Type 0} → Sets I → GroupView S I → List JavaType → List Bool → Bool
arguments_fit sets group types c = slots_fit types (top_slots sets group (length types) c)

-- a method that is selected for one that is resolved has its descriptor, and is static exactly where that is
pub record IsLike (p : Program) (resolved m : ℕ) : Type 0 where
  pub descriptor : (method_at p m).descriptor ≡ (method_at p resolved).descriptor
  pub static : has STATIC (method_at p m).flags ≡ has STATIC (method_at p resolved).flags
