-- Conditional slots: the slot at a configuration, with Top where there is none.
use Rattle.std.specs.Prelude.{Bool, List, map, Option, unwrap_or}
use Rattle.vx_value.specs.declared.slot.Slot.{Slot}
use Rattle.vx_value.specs.declared.slot.Slot.TheVariants.{Top}
use Rattle.vx_space.specs.Sets.{Sets}
use Rattle.vx_cond.specs.Cond.{Conditional, cond_at}
use Rattle.vx_cond.specs.Row.{Conditionals, row_at}

abbrev pub or_top : Option Slot → Slot
or_top slot = unwrap_or slot Top

-- the slot at a configuration of the scope
abbrev pub slot_at : {S I : Type 0} → Sets I → Conditional Slot S I → List Bool → Slot
slot_at sets cond c = or_top (cond_at sets cond c)

-- the slots at a configuration of the scope, in order
abbrev pub slots_at : {S I : Type 0} → Sets I → Conditionals Slot S I → List Bool → List Slot
slots_at sets row c = map or_top (row_at sets row c)
