-- Static fields, for all configurations of a group at once (JVMS 6.5 getstatic, putstatic).
use Rattle.std.specs.Prelude.{ℕ, Bool, true, false, ◌∷◌, ◌&&◌, ◌==◌, is_some, slice_set}
use Rattle.vx_desc.specs.Names.{is_clinit}
use Rattle.vx_heap.specs.Heap.{Globals}
use Rattle.vx_java.specs.Checks.{width_of_type}
use Rattle.vx_java.specs.Fields.{Found, declaring, static_value}
use Rattle.vx_java.specs.Initialisation.{when_initialised}
use Rattle.vx_java.specs.Machine.{Here, Outcome, Value, go, has_room, illegal, when}
use Rattle.vx_java.specs.declared.operation.Operation.{Operation}
use Rattle.vx_java.specs.declared.operation.Operation.TheVariants.{GetStatic, PutStatic}
use Rattle.vx_link.specs.Parts.{field_at, method_at}
use Rattle.vx_link.specs.declared.program.Program.{Program}

-- the operations of this family
abbrev pub is_of_statics : Operation → Bool
is_of_statics (GetStatic i) = true
is_of_statics (PutStatic i) = true
is_of_statics _ = false

-- ---- one configuration

-- getstatic of a field that is there
abbrev pub got : Found → Here → Outcome
got found h =
    when (has_room h (width_of_type found.type) h.state.top.operands)
    (when_initialised h (declaring h found) (λ g. go g (static_value g.state found ∷ g.state.top.operands)))
    (illegal h)

-- an option keeps its value where the <clinit> of its own class writes it
abbrev pub keeps_option : Program → (method field : ℕ) → Bool
keeps_option p method field =
    is_some (field_at p field).option
    && (is_clinit (method_at p method).name && ((method_at p method).class.0 == (field_at p field).class.0))

-- a store to a static field
abbrev pub stored : (keeps : Bool) → (field : ℕ) → Value → Globals → Globals
stored true field v g = g
stored false field v g = record g { statics = slice_set g.statics field v }
