-- What comes of a frame that returns, once its class is marked that it initialised (JVMS 2.6.4, 5.5).
use Rattle.std.specs.Prelude.{◌+◌, ◌++◌, ◌&&◌, ◌∷◌, Bool, true, false, List, [], if◌then◌else◌, nat_lt, not, Option}
use Rattle.vx_cond.specs.Cond.{Conditional}
use Rattle.vx_families.specs.Bounds.{IsBounded}
use Rattle.vx_frames.specs.Unwinding.{is_call}
use Rattle.vx_group.specs.declared.callers.Caller.{Caller}
use Rattle.vx_group.specs.Group.{GroupView, depth_of}
use Rattle.vx_group_states.specs.Stands.{StandsIn}
use Rattle.vx_heap.specs.Heap.{Globals, HeapView, IsHeap, IsHeapFor}
use Rattle.vx_java.specs.Machine.{Ended, Frame, Go, Here, Outcome, State, Value, illegal, place_at, when}
use Rattle.vx_java.specs.Returns.{awake, bytes_of, fits_caller, frame_resumed, instruction_size}
use Rattle.vx_java.specs.declared.operation.Operation.{Operation}
use Rattle.vx_java.specs.declared.operation.Operation.TheVariants.{Return}
use Rattle.vx_link.specs.Parts.{method_at}
use Rattle.vx_link.specs.declared.program.Program.{Program}
use Rattle.vx_opcode.specs.Decode.{instruction_at}
use Rattle.vx_ready.specs.Initialising.{with_done}
use Rattle.vx_space.specs.Sets.{Sets}
use Rattle.vx_value.specs.declared.end.End.TheVariants.{Illegal, Return as ReturnEnd}
use Rattle.vx_value.specs.declared.key.Kind.{Kind}
use Rattle.vx_value.specs.declared.key.Kind.TheVariants.{Call}
use Rattle.vx_group_states.specs.Sites.{here}
use Rattle.vx_group_states.specs.declared.site.Site.{Site}
use Rattle.vx_value.specs.declared.slot.Slot.{Slot}
use Rattle.vx_returns.specs.declared.receiving.ReturnSite.{ReturnSite}

-- an operation of this family
abbrev pub is_return : Operation → Bool
is_return (Return sort) = true
is_return _ = false

-- the value on top, as a list of at most one, where one is handed back
abbrev pub handed : (returns : Bool) → List Value → List Value
handed true (v ∷ operands) = v ∷ []
handed _ _ = []

-- the run ends with its first frame; a caller moves past its call and gets the value, if that fits; a frame below an initialisation stays where it stands
abbrev pub left_to : Here → Kind → List Value → List Frame → Outcome
left_to h kind value [] = Ended ReturnEnd
left_to h Call value (f ∷ below) =
    when (fits_caller h.program f value)
    (Go (record (h.state) { top = frame_resumed h.program f value; callers = below }))
    (illegal h)
left_to h _ value (f ∷ below) = Go (record (h.state) { top = record f { kind = awake f.kind }; callers = below })

abbrev pub left_by : Site → (returns : Bool) → State → Outcome
left_by site returns s = left_to (here site s) s.top.kind (handed returns s.top.operands) s.callers

-- the same where a value of the sort is handed back, and else the return breaks a rule
abbrev pub left_where : Site → (returns fits : Bool) → State → Outcome
left_where site returns fits s = when fits (left_by site returns s) (illegal (here site s))

-- ---- the caller

-- a group whose frame on top moved past the instruction where it stands
abbrev pub past_call : {S I : Type 0} → Program → GroupView S I → GroupView S I
past_call p group = record group { top = record (group.top) { position = group.top.position + instruction_size (instruction_at (bytes_of (method_at p group.top.method.0).code) group.top.position) } }

-- a group with a value more on the operands, and a state with one
abbrev pub with_pushed : {S I : Type 0} → GroupView S I → Conditional Slot S I → GroupView S I
with_pushed group value = record group { top = record (group.top) { stack = record (group.top.stack) { conds = group.top.stack.conds ++ value ∷ [] } } }

abbrev pub with_operand : State → Value → State
with_operand s v = record s { top = record (s.top) { operands = v ∷ s.top.operands } }

-- the value is put on the operands of the caller, if it fits there; else the run ends at the return, which stands at this place
abbrev pub ended_at : Program → ReturnSite → Outcome
ended_at p at = Ended (Illegal (place_at p at.method.0 at.position))

abbrev pub received : Program → ReturnSite → Value → State → Outcome
received p at v s = when (fits_caller p s.top (v ∷ [])) (Go (with_operand s v)) (ended_at p at)

-- ---- the class that is initialised

-- the frame on top of a group is an initialisation, and another frame is below it
abbrev pub has_initialised : {S I : Type 0} → GroupView S I → Bool
has_initialised group = not (is_call group.top.kind) && nat_lt 1 (depth_of group)

-- its class is done
abbrev pub done_by : {S I : Type 0} → Program → GroupView S I → Globals → Globals
done_by p group g = if has_initialised group then with_done ((method_at p group.top.method.0).class.0 ∷ []) g else g

-- a group that returns stands over this heap and this tree
pub record IsReturning {S I : Type 0} (site : Site) (sets : Sets I) (heap : HeapView S I) (tree : List (Option (Caller S I))) (group : GroupView S I) : Type 0 where
  pub bounded : IsBounded site.program.now
  pub is_heap : IsHeap sets heap
  pub is_for : IsHeapFor site.program.now heap
  pub stands : StandsIn site.program.now sets heap tree group
