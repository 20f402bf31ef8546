-- Returns by the parts of the code.
use Rattle.std.specs.Prelude.{Bool, List, None, Option, Some, [], ℕ, ◌∷◌}
use Rattle.vx_java.specs.Machine.{Ended, Frame, Go, Here, Outcome, Value, current_class, with_inits}
use Rattle.vx_java.specs.Returns.{awake, bytes_of, fits_caller, instruction_size}
use Rattle.vx_link.specs.Parts.{method_at}
use Rattle.vx_link.specs.declared.program.Program.{Program}
use Rattle.vx_opcode.specs.Decode.{instruction_at}
use Rattle.vx_plain.specs.Views.{value_of}
use Rattle.vx_plain_calls.specs.declared.returning.Returned.{Returned}
use Rattle.vx_plain_calls.specs.declared.returning.Returned.TheVariants as returned
use Rattle.vx_value.specs.declared.end.End.TheVariants.{Return as ReturnEnd}
use Rattle.vx_value.specs.declared.slot.InitState.TheVariants.{Done}

-- a value that is handed back as a list of at most one
abbrev pub as_list : Option Value → List Value
as_list None = []
as_list (Some v) = v ∷ []

abbrev pub values_in : Returned → Option (List Value)
values_in returned.Nothing = Some []
values_in (returned.Value v) = Some (value_of v ∷ [])
values_in returned.Illegal = None

-- how long the instruction is at which a frame stands
abbrev pub size_at : Program → Frame → ℕ
size_at p f = instruction_size (instruction_at (bytes_of (method_at p f.method).code) f.position)

-- whether what is handed back fits on the nearest caller
abbrev pub fits_below : Program → List Frame → List Value → Option Bool
fits_below p [] value = None
fits_below p (f ∷ below) value = Some (fits_caller p f value)

-- the end of an initialisation
abbrev pub initialised : Here → List Frame → Outcome
initialised h [] = Ended ReturnEnd
initialised h (f ∷ below) =
    Go (record (with_inits h.state Done (current_class h.program h.state ∷ [])) { top = record f { kind = awake f.kind }; callers = below })
