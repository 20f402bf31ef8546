-- Calls (JVMS 2.6, 6.5 invokevirtual, invokespecial, invokestatic, invokeinterface, Java SE 8).
use Rattle.std.specs.Prelude.{Bool, List, None, Option, Some, [], codes, false, if◌then◌else◌, length, nat_lt, not, option_map, suc, true, unwrap_or, zero, ℕ, ◌&&◌, ◌++◌, ◌==◌, ◌||◌, ◌∷◌}
use Rattle.vx_class.specs.Members.{STATIC}
use Rattle.vx_class.specs.declared.class_file.Code.{Code}
use Rattle.vx_desc.specs.Names.{is_init}
use Rattle.vx_desc.specs.declared.java_type.JavaType.{JavaType}
use Rattle.vx_java.specs.Checks.{fits_type, is_instance_of, is_object, is_of, non_null, same_bool, with_class}
use Rattle.vx_java.specs.Initialisation.{when_initialised, new_frame}
use Rattle.vx_java.specs.Machine.{Go, Here, Long, Native, Outcome, Ref, State, Top, Value, current_class, depth, frame_bound, illegal, method_text, object_at, push_new, raise, unsupported, when}
use Rattle.vx_java.specs.Operation.{method_word, native_word}
use Rattle.vx_java.specs.Selection.{selected_if_concrete, select, select_special}
use Rattle.vx_java.specs.declared.operation.Mode.{Mode}
use Rattle.vx_java.specs.declared.operation.Mode.TheVariants.{Interface, Special, Static}
use Rattle.vx_java.specs.declared.operation.Sort.TheVariants.{Reference}
use Rattle.vx_java.specs.declared.selected.Selected.{Selected}
use Rattle.vx_java.specs.declared.selected.Selected.TheVariants.{Abstract, Conflict, Method}
use Rattle.vx_link.specs.Assignability.{assignable}
use Rattle.vx_link.specs.ClassNames.{is_array}
use Rattle.vx_link.specs.Hierarchy.{is_proper_superclass, superclass_of}
use Rattle.vx_link.specs.Names.{Member, member}
use Rattle.vx_link.specs.Parts.{PRIVATE, has, is_interface, method_at}
use Rattle.vx_link.specs.Resolution.{is_array_clone, resolve_method}
use Rattle.vx_link.specs.Signature.{signature}
use Rattle.vx_value.specs.declared.key.Kind.TheVariants.{Call}

-- ---- arguments

-- the arguments off the operand stack, the last one on top; none where a value lacks or is not of its type's sort
abbrev pub values_matching : List JavaType → List Value → Option (List Value)
values_matching [] values = Some []
values_matching (t ∷ ts) [] = None
values_matching (t ∷ ts) (v ∷ vs) = if fits_type t v then option_map (λ rest. v ∷ rest) (values_matching ts vs) else None

-- so many values off the top, the deepest first, and the values under them
abbrev pub top_values : ℕ → List Value → List Value → List Value × List Value
top_values zero taken rest = (taken, rest)
top_values (suc n) taken [] = (taken, [])
top_values (suc n) taken (v ∷ rest) = top_values n (v ∷ taken) rest

abbrev pub arguments_off : List JavaType → List Value → Option (List Value × List Value)
arguments_off types operands =
    let parts = top_values (length types) [] operands in option_map (λ values. (values, parts.1)) (values_matching types parts.0)

-- the locals that values take: two for a long
abbrev pub in_locals : List Value → List Value
in_locals [] = []
in_locals (Long n ∷ vs) = Long n ∷ Top ∷ in_locals vs
in_locals (v ∷ vs) = v ∷ in_locals vs

-- ---- the carrying out of a selected method

-- a new frame above the caller, whose operands lose the arguments and whose position stays
abbrev pub state_in_callee : Here → ℕ → List Value → List Value → State
state_in_callee h m values rest =
    record (h.state) {
      top = new_frame h.program Call m (in_locals values);
      callers = record (h.state.top) { operands = rest } ∷ h.state.callers;
    }

abbrev pub enter : Here → ℕ → Option Code → List Value → List Value → Outcome
enter h m None values rest =
    when ((method_at h.program m).native == 0) (unsupported h native_word (method_text h.program (method_at h.program m))) (Native m h.state)
enter h m (Some code) values rest =
    when (nat_lt (depth h.state) frame_bound) (Go (state_in_callee h m values rest)) (raise h "java/lang/StackOverflowError")

-- a native method, or a frame unless there are too many
abbrev pub carry_out : Here → List Value → List Value → Selected → Outcome
carry_out h values rest (Method m) = enter h m.0 (method_at h.program m.0).code values rest
carry_out h values rest Abstract = raise h "java/lang/AbstractMethodError"
carry_out h values rest Conflict = raise h "java/lang/IncompatibleClassChangeError"

-- ---- the four calls

abbrev pub wrong_kind : Here → Outcome
wrong_kind h = raise h "java/lang/IncompatibleClassChangeError"

-- the arguments, and the values under them
abbrev pub if_arguments : Here → Option (List Value × List Value) → (List Value → List Value → Outcome) → Outcome
if_arguments h None next = illegal h
if_arguments h (Some (values, rest)) next = next values rest

abbrev pub with_arguments : Here → Member → (List Value → List Value → Outcome) → Outcome
with_arguments h m next = if_arguments h (arguments_off (signature m.descriptor).arguments h.state.top.operands) next

-- the named class for the receiver, or any array where an array class is named; an interface method takes any reference
abbrev pub is_receiver : Here → Member → ℕ → Value → Bool
is_receiver h m named o =
    if m.by_interface then is_of Reference o
    else if is_array h.program named then is_object h (is_array h.program) o
    else is_instance_of h named o

abbrev pub on_receiver : Here → Member → ℕ → List Value → (ℕ → List Value → Outcome) → Outcome
on_receiver h m named [] next = illegal h
on_receiver h m named (o ∷ rest) next = when (is_receiver h m named o) (non_null h o (λ r. next r rest)) (illegal h)

-- the search of invokespecial begins at the current class's direct superclass
abbrev pub begins_above : Here → Member → ℕ → Bool
begins_above h m named = not (is_init m.name) && is_proper_superclass h.program named (current_class h.program h.state)

abbrev pub selected_special : Here → Member → (named resolved : ℕ) → Selected
selected_special h m named resolved =
    if m.by_interface then select_special h.program named resolved
    else if begins_above h m named then select_special h.program (unwrap_or (superclass_of h.program (current_class h.program h.state)) 0) resolved
    else selected_if_concrete h.program resolved

abbrev pub selection : Here → Mode → Member → (named resolved receiver : ℕ) → Selected
selection h Special m named resolved receiver = selected_special h m named resolved
selection h _ m named resolved receiver = select h.program receiver resolved

-- the receiver of an interface method implements the interface
abbrev pub dispatch : Here → Mode → Member → (named resolved : ℕ) → List Value → ℕ → List Value → Outcome
dispatch h mode m named resolved values r rest =
    let receiver = (object_at h.state r).class in
    when (m.by_interface && not (assignable h.program receiver named)) (wrong_kind h)
    (carry_out h (Ref r ∷ values) rest (selection h mode m named resolved receiver))

abbrev pub call_instance : Here → Mode → Member → (named resolved : ℕ) → Outcome
call_instance h mode m named resolved =
    with_arguments h m (λ values below. on_receiver h m named below (dispatch h mode m named resolved values))

abbrev pub call_static : Here → Member → (resolved : ℕ) → Outcome
call_static h m resolved =
    with_arguments h m (λ values rest.
    when_initialised h (method_at h.program resolved).class.0 (λ g. carry_out g values rest (selected_if_concrete g.program resolved)))

-- static against instance, or a private method by invokeinterface
abbrev pub call_resolved : Here → Mode → Member → (named resolved : ℕ) → Outcome
call_resolved h Static m named resolved =
    when (has STATIC (method_at h.program resolved).flags) (call_static h m resolved) (wrong_kind h)
call_resolved h Interface m named resolved =
    when (has STATIC (method_at h.program resolved).flags || has PRIVATE (method_at h.program resolved).flags) (wrong_kind h)
    (call_instance h Interface m named resolved)
call_resolved h mode m named resolved =
    when (has STATIC (method_at h.program resolved).flags) (wrong_kind h) (call_instance h mode m named resolved)

abbrev pub member_text : Member → List ℕ
member_text m = m.class ++ (codes "." ++ (m.name ++ m.descriptor))

abbrev pub if_method : Here → Mode → Member → ℕ → Option ℕ → Outcome
if_method h mode m named None = unsupported h method_word (member_text m)
if_method h mode m named (Some resolved) = call_resolved h mode m named resolved

-- the clone of an array copies it in one attempt
abbrev pub clone_array : Here → Mode → Member → ℕ → Outcome
clone_array h Static m named = wrong_kind h
clone_array h mode m named = on_receiver h m named h.state.top.operands (λ r rest. push_new h (object_at h.state r) rest)

abbrev pub on_class : Here → Mode → Member → ℕ → Outcome
on_class h mode m named =
    elim (is_array_clone h.program named m.name m.descriptor) [
      | true ↦ clone_array h mode m named
      | false ↦ if_method h mode m named (resolve_method h.program named m.name m.descriptor)
    ]

-- invokevirtual, invokespecial, invokestatic, invokeinterface: a Methodref names a class, an InterfaceMethodref an interface
abbrev pub invoke : Here → Mode → ℕ → Outcome
invoke h mode i =
    let m = member h.pool i in
    with_class h m.class (λ named.
    when (same_bool m.by_interface (is_interface h.program named)) (on_class h mode m named) (wrong_kind h))
