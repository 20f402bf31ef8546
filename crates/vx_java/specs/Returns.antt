-- Returns (JVMS 2.6.4, 6.5 ireturn, lreturn, areturn, return).
use Rattle.std.specs.Prelude.{Bool, List, None, Option, Some, [], false, if◌then◌else◌, nat_le, true, ℕ, ◌++◌, ◌+◌, ◌∷◌}
use Rattle.vx_class.specs.declared.class_file.Code.{Code}
use Rattle.vx_desc.specs.declared.java_type.JavaType.{JavaType}
use Rattle.vx_java.specs.Checks.{is_of, sort_of}
use Rattle.vx_java.specs.Machine.{Ended, Frame, Go, Here, Outcome, Value, current_class, illegal, stack_size, when, with_inits}
use Rattle.vx_java.specs.declared.operation.Sort.{Sort}
use Rattle.vx_link.specs.Parts.{method_at}
use Rattle.vx_link.specs.Signature.{signature}
use Rattle.vx_link.specs.declared.program.Program.{Program}
use Rattle.vx_opcode.specs.Decode.{instruction_at}
use Rattle.vx_opcode.specs.declared.instruction.Instruction.{Instruction}
use Rattle.vx_value.specs.declared.key.Kind.{Kind}
use Rattle.vx_value.specs.declared.key.Kind.TheVariants.{Call, Init, Wait}
use Rattle.vx_value.specs.declared.slot.InitState.TheVariants.{Done}
use Rattle.vx_value.specs.declared.end.End.TheVariants.{Return as ReturnEnd}
use Rattle.vx_java.specs.declared.operation.Sort.TheVariants.{Int as IntSort, Long as LongSort, Reference}

-- the kind of the instruction agrees with the descriptor
abbrev pub same_sort : Sort → Option Sort → Bool
same_sort IntSort (Some IntSort) = true
same_sort LongSort (Some LongSort) = true
same_sort Reference (Some Reference) = true
same_sort _ _ = false

abbrev pub agrees : Option Sort → Option JavaType → Bool
agrees None None = true
agrees (Some sort) (Some type) = same_sort sort (sort_of type)
agrees _ _ = false

-- the value that is handed back, as a list of at most one; none where it is not of the kind
abbrev pub values_returned : Option Sort → List Value → Option (List Value)
values_returned None operands = Some []
values_returned (Some sort) [] = None
values_returned (Some sort) (v ∷ rest) = if is_of sort v then Some (v ∷ []) else None

abbrev pub instruction_size : Option Instruction → ℕ
instruction_size None = 0
instruction_size (Some i) = i.length

abbrev pub bytes_of : Option Code → List ℕ
bytes_of None = []
bytes_of (Some code) = code.bytes

abbrev pub max_stack : Option Code → ℕ
max_stack None = 0
max_stack (Some code) = code.max_stack

-- the caller moves past its call and gets the value
abbrev pub frame_resumed : Program → Frame → List Value → Frame
frame_resumed p f value =
    record f {
      position = f.position + instruction_size (instruction_at (bytes_of (method_at p f.method).code) f.position);
      operands = value ++ f.operands;
    }

-- the frame below an initialisation stays where it stands, and is the next to initialise if it waits
abbrev pub awake : Kind → Kind
awake Wait = Init
awake kind = kind

-- a value that is handed back fits on the caller's operands; where there is none, nothing is asked
abbrev pub fits_caller : Program → Frame → List Value → Bool
fits_caller p f [] = true
fits_caller p f (v ∷ vs) = nat_le (stack_size (v ∷ f.operands)) (max_stack (method_at p f.method).code)

-- a return by the kind of the frame, to the frame below or to none
abbrev pub return_to : Here → Kind → List Value → List Frame → Outcome
return_to h kind value [] = Ended ReturnEnd
return_to h Call value (f ∷ below) =
    when (fits_caller h.program f value)
    (Go (record (h.state) { top = frame_resumed h.program f value; callers = below }))
    (illegal h)
return_to h _ value (f ∷ below) =
    Go (record (with_inits h.state Done (current_class h.program h.state ∷ [])) { top = record f { kind = awake f.kind }; callers = below })

abbrev pub return_value : Here → Option (List Value) → Outcome
return_value h None = illegal h
return_value h (Some value) = return_to h h.state.top.kind value h.state.callers

-- ireturn, lreturn, areturn, return
abbrev pub return_from : Here → Option Sort → Outcome
return_from h sort =
    when (agrees sort (signature (method_at h.program h.state.top.method).descriptor).result)
    (return_value h (values_returned sort h.state.top.operands))
    (illegal h)
