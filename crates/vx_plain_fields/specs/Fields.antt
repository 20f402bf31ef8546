-- What instructions do with fields (JVMS 6.5 getstatic, putstatic, getfield, putfield).
use Rattle.std.specs.Prelude.{Bool, false, is_some, true, ℕ, ◌&&◌, ◌==◌, ◌∷◌}
use Rattle.vx_desc.specs.Names.{is_clinit}
use Rattle.vx_java.specs.Checks.{width_of_type}
use Rattle.vx_java.specs.Fields as fields
use Rattle.vx_java.specs.Fields.{declaring, get_from, put_into, put_value, static_value}
use Rattle.vx_java.specs.Initialisation.{when_initialised}
use Rattle.vx_java.specs.Machine.{Here, Outcome, go, has_room, illegal, when}
use Rattle.vx_link.specs.Parts.{field_at, method_at}
use Rattle.vx_link.specs.declared.program.Program.{Program}
use Rattle.vx_plain_fields.specs.declared.fields.Found.{Found}
use Rattle.vx_plain_fields.specs.declared.fields.Use.{Use}
use Rattle.vx_plain_fields.specs.declared.fields.Use.TheVariants.{GetField, GetStatic, PutField, PutStatic}

abbrev pub found_of : Found → fields.Found
found_of f = record { named = f.named.0; field = f.field.0; type = f.field_type }

abbrev pub is_static_use : Use → Bool
is_static_use GetStatic = true
is_static_use PutStatic = true
is_static_use GetField = false
is_static_use PutField = false

-- what follows for a field that is there
abbrev pub used : Here → Use → fields.Found → Outcome
used h GetStatic found =
    when (has_room h (width_of_type found.type) h.state.top.operands)
    (when_initialised h (declaring h found) (λ g. go g (static_value g.state found ∷ g.state.top.operands)))
    (illegal h)
used h PutStatic found = put_value h found h.state.top.operands
used h GetField found = get_from h found h.state.top.operands
used h PutField found = put_into h found h.state.top.operands

-- an option keeps its value where the <clinit> of its own class writes it
abbrev pub keeps : Program → (method field : ℕ) → Bool
keeps p method field =
    is_some (field_at p field).option
    && (is_clinit (method_at p method).name && ((method_at p method).class.0 == (field_at p field).class.0))
