-- What a call comes to at one configuration: its name is resolved, and its receiver selects the method (JVMS 6.5 invokevirtual, invokespecial, invokeinterface, Java SE 8).
use Rattle.std.specs.Prelude.{◌≡◌, ◌≤◌, ◌-◌, ◌&&◌, ◌==◌, ℕ, Bool, true, List, [], drop, length, not, Option, Some, None, if◌then◌else◌, is_some, nat_lt, option_map, unwrap_or}
use Rattle.vx_cond.specs.Cond.{Conditional}
use Rattle.vx_desc.specs.Names.{is_init}
use Rattle.vx_frames.specs.Entering.{AreArguments}
use Rattle.vx_group.specs.Group.{GroupView, path_of}
use Rattle.vx_heap.specs.Heap.{HeapView, class_at_slot}
use Rattle.vx_java.specs.Calls.{state_in_callee, top_values}
use Rattle.vx_java.specs.Initialisation.{max_locals}
use Rattle.vx_java.specs.Machine.{Here, Outcome, State, Value, Go, Native as NativeOutcome, depth, frame_bound, illegal, method_text, raise, unsupported, when}
use Rattle.vx_java.specs.Operation.{native_word}
use Rattle.vx_java.specs.Selection.{select, select_special, selected_if_concrete}
use Rattle.vx_java.specs.declared.operation.Mode.{Mode}
use Rattle.vx_java.specs.declared.operation.Mode.TheVariants.{Special}
use Rattle.vx_java.specs.declared.selected.Selected.{Selected}
use Rattle.vx_java.specs.declared.selected.Selected.TheVariants as selected
use Rattle.vx_link.specs.Assignability.{assignable}
use Rattle.vx_link.specs.ClassNames.{is_array}
use Rattle.vx_link.specs.Hierarchy.{is_proper_superclass, superclass_of}
use Rattle.vx_link.specs.Names.{Member}
use Rattle.vx_link.specs.Parts.{method_at}
use Rattle.vx_link.specs.declared.program.Program.{Program}
use Rattle.vx_space.specs.Sets.{Sets}
use Rattle.vx_group_states.specs.Sites.{here}
use Rattle.vx_group_states.specs.declared.site.Site.{Site}
use Rattle.vx_value.specs.declared.ids.MethodId.{MethodId}
use Rattle.vx_value.specs.declared.slot.Slot.{Slot}
use Rattle.vx_value.specs.declared.slot.Slot.TheVariants as slot
use Rattle.vx_invoke.specs.declared.call.Call.{Call}
use Rattle.vx_invoke.specs.declared.call.Call.TheVariants as call
use Rattle.vx_invoke.specs.declared.target.Target.{Target}

-- ---- a call whose name is resolved

-- the target is that of an instruction of this mode which names this member, in a method of this class
pub record IsTarget (of : Mode) (m : Member) (class : ℕ) (target : Target) : Type 0 where
  pub mode : target.mode ≡ of
  pub by_interface : target.by_interface ≡ m.by_interface
  pub is_init : target.is_init ≡ is_init m.name
  pub current : target.current.0 ≡ class

-- the named class for the receiver, or any array where an array class is named; where an interface is named any object
abbrev pub accepts : Program → Target → (class : ℕ) → Bool
accepts p target class =
    if target.by_interface then true
    else if is_array p target.named.0 then is_array p class
    else assignable p class target.named.0

-- the search of invokespecial begins at the current class's direct superclass
abbrev pub begins_above : Program → Target → Bool
begins_above p target = not target.is_init && is_proper_superclass p target.named.0 target.current.0

abbrev pub selected_special : Program → Target → Selected
selected_special p target =
    if target.by_interface then select_special p target.named.0 target.resolved.0
    else if begins_above p target then select_special p (unwrap_or (superclass_of p target.current.0) 0) target.resolved.0
    else selected_if_concrete p target.resolved.0

abbrev pub selected_by : Mode → Program → Target → (class : ℕ) → Selected
selected_by Special p target class = selected_special p target
selected_by _ p target class = select p class target.resolved.0

-- ---- what it comes to

-- a method that was selected, by what it has
abbrev pub entered : Program → ℕ → Call
entered p m =
    if is_some (method_at p m).code then call.Enter (record { 0 = m })
    else if (method_at p m).native == 0 then call.Missing (record { 0 = m })
    else call.Native (record { 0 = m })

abbrev pub by_selected : Program → Selected → Call
by_selected p (selected.Method m) = entered p m.0
by_selected p selected.Abstract = call.Abstract
by_selected p selected.Conflict = call.WrongKind

-- on an object of a class; the receiver of an interface method implements the interface
abbrev pub call_on : Program → Target → (class : ℕ) → Call
call_on p target class =
    if not (accepts p target class) then call.Illegal
    else if target.by_interface && not (assignable p class target.named.0) then call.WrongKind
    else by_selected p (selected_by target.mode p target class)

abbrev pub call_on_some : Program → Target → Option ℕ → Call
call_on_some p target None = call.Illegal
call_on_some p target (Some class) = call_on p target class

-- by the operand that is the receiver
abbrev pub call_of : {S I : Type 0} → Program → HeapView S I → Target → Slot → Call
call_of p heap target slot.Null = call.Null
call_of p heap target receiver = call_on_some p target (option_map (λ class. class.0) (class_at_slot heap receiver))

-- a frame of the method with these values, unless there are too many frames
abbrev pub entering : Here → ℕ → (values rest : List Value) → Outcome
entering h m values rest = when (nat_lt (depth h.state) frame_bound) (Go (state_in_callee h m values rest)) (raise h "java/lang/StackOverflowError")

-- with these values for the method, over the operands under them
abbrev pub called : Here → (values rest : List Value) → Call → Outcome
called h values rest call.Illegal = illegal h
called h values rest call.Null = raise h "java/lang/NullPointerException"
called h values rest call.WrongKind = raise h "java/lang/IncompatibleClassChangeError"
called h values rest call.Abstract = raise h "java/lang/AbstractMethodError"
called h values rest (call.Missing m) = unsupported h native_word (method_text h.program (method_at h.program m.0))
called h values rest (call.Native m) = NativeOutcome m.0 h.state
called h values rest (call.Enter m) = entering h m.0 values rest

-- with so many operands, the deepest first
abbrev pub called_with : Site → (count : ℕ) → Call → State → Outcome
called_with site count call s =
    let parts = top_values count [] s.top.operands in called (here site s) parts.0 parts.1 call

abbrev pub call_or_illegal : Option Call → Call
call_or_illegal found = unwrap_or found call.Illegal

-- ---- groups

-- so many conditional values from the top of an operand stack, the deepest first
abbrev pub top_conds : {T S I : Type 0} → ℕ → List (Conditional T S I) → List (Conditional T S I)
top_conds count conds = drop (length conds - count) conds

-- the operands on top of a group are arguments with which the method begins that the call enters, if it enters one
pub record MayEnter {S I : Type 0} (p : Program) (sets : Sets I) (group : GroupView S I) (count : ℕ) (to : Call) : Type 0 where
  pub enough : count ≤ length group.top.stack.conds
  pub room : (m : MethodId) → to ≡ call.Enter m → AreArguments sets (path_of group) (max_locals (method_at p m.0).code) (top_conds count group.top.stack.conds)
