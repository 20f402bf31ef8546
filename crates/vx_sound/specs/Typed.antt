-- What every state of a run keeps where each method has a typing: values are of the types that are known where they stand.
use Rattle.std.specs.Prelude.{Bool, List, None, Option, Some, [], false, length, map, not, option_map, true, ℕ, ◌&&◌, ◌+◌, ◌<◌, ◌==◌, ◌∷◌, ◌≡◌, ◌≤◌}
use Rattle.vx_class.specs.Members.{STATIC}
use Rattle.vx_class.specs.declared.class_file.Code.{Code}
use Rattle.vx_desc.specs.declared.java_type.JavaType.{JavaType}
use Rattle.vx_java.specs.Calls.{arguments_off}
use Rattle.vx_java.specs.FirstObjects.{first_objects, object_of_first}
use Rattle.vx_java.specs.Machine.{Begin, Ended, Ends, Frame, Go, Goes, Native, Next, Object, Outcome, Raise, Ref, State, Throw, Top, Value, Write, no_object, object_at}
use Rattle.vx_java.specs.Returns.{bytes_of, instruction_size}
use Rattle.vx_java.specs.Step.{Live, Over, Run}
use Rattle.vx_kept_facts.specs.Kept.{is_throwable}
use Rattle.vx_link.specs.ClassNames.{is_array}
use Rattle.vx_link.specs.Hierarchy.{is_among, superclasses}
use Rattle.vx_link.specs.Parts.{class_count, field_at, has, is_static_field, method_at}
use Rattle.vx_link.specs.Signature.{signature}
use Rattle.vx_link.specs.declared.program.Program.{Program}
use Rattle.vx_list.specs.Places.{item_or}
use Rattle.vx_opcode.specs.Decode.{instruction_at}
use Rattle.vx_sound.specs.Values.{cell_type, type_of_field, type_of_reference, type_of_value, types_of_frame, types_of_values}
use Rattle.vx_types.specs.Fits.{all_fit, fits}
use Rattle.vx_types.specs.Rows.{current_class}
use Rattle.vx_types.specs.Types.{VerState, class_type, type_of}
use Rattle.vx_types.specs.declared.types.VerType.{VerType}
use Rattle.vx_value.specs.declared.end.End.{End}
use Rattle.vx_value.specs.declared.end.End.TheVariants.{Illegal}
use Rattle.vx_value.specs.declared.key.Kind.{Kind}
use Rattle.vx_value.specs.declared.key.Kind.TheVariants.{Call}
use Rattle.vx_verify.specs.Typing.{IsReached, IsTyping}

-- ---- typings of a program

-- the types at the positions of each method
abbrev pub Typings : Type 0
Typings = (method position : ℕ) → Option VerState

-- a method that has no code covers nothing
abbrev pub IsTypingOf : Program → (method : ℕ) → Option Code → (ℕ → Option VerState) → Type 0
IsTypingOf p m None typing = (position : ℕ) → typing position ≡ None
IsTypingOf p m (Some code) typing = IsTyping p m code typing

abbrev pub AreTypings : Program → Typings → Type 0
AreTypings p typings = (m : ℕ) → IsTypingOf p m (method_at p m).code (typings m)

-- ---- objects

-- an instance field that the objects of a class have
abbrev pub has_field : Program → (class field : ℕ) → Bool
has_field p c f = not (is_static_field p f) && is_among (field_at p f).class.0 (superclasses p c)

-- an array has as many cells as its size says, each of its components' type; in another object the cell of each field is of the field's type
pub record IsTypedObject (p : Program) (heap : List Object) (o : Object) : Type 0 where
  pub size : is_array p o.class ≡ true → o.size ≡ length o.cells
  pub cells : is_array p o.class ≡ true → (i : ℕ) → i < length o.cells → fits p (type_of_value p heap (item_or o.cells i Top)) (cell_type p o.class) ≡ true
  pub fields : is_array p o.class ≡ false → (f : ℕ) → f < length p.fields → has_field p o.class f ≡ true
      → fits p (type_of_value p heap (item_or o.cells (field_at p f).cell Top)) (type_of_field p f) ≡ true

-- the objects with which the heap begins are of their classes
abbrev pub first_heap : Program → List Object
first_heap p = map (object_of_first p) (first_objects p)

pub record IsTypedHeap (p : Program) (heap : List Object) : Type 0 where
  pub objects : (r : ℕ) → r < length heap → IsTypedObject p heap (item_or heap r no_object)
  pub enough : length (first_heap p) ≤ length heap
  pub first : (r : ℕ) → r < length (first_heap p) → (item_or heap r no_object).class ≡ (item_or (first_heap p) r no_object).class

-- ---- frames

-- a frame at which the run goes on: its position is reached with the types of its values
abbrev pub IsTypedFrame : Program → Typings → List Object → Frame → Type 0
IsTypedFrame p typings heap f = IsReached p (typings f.method) f.position (types_of_frame p heap f)

-- behind the instruction at which a frame stands
abbrev pub position_behind : Program → Frame → ℕ
position_behind p f = f.position + instruction_size (instruction_at (bytes_of (method_at p f.method).code) f.position)

-- what a method hands back: nothing; a float or a double, which it never does; or a value of a type
abbrev pub type_handed : Program → (method : ℕ) → Option (Option VerType)
type_handed p m = let d = (method_at p m).descriptor in option_map (type_of p d) (signature d).result

abbrev pub IsResumed : Program → Typings → (method position : ℕ) → VerState → Option (Option VerType) → Type 0
IsResumed p typings m position s None = IsReached p (typings m) position s
IsResumed p typings m position s (Some None) = Unit {0}
IsResumed p typings m position s (Some (Some t)) = IsReached p (typings m) position (record s { operands = t ∷ s.operands })

-- a frame that waits for the end of a method it has called: its handlers find its local variables, and behind its call it goes on with what it is handed
pub record IsTypedCaller (p : Program) (typings : Typings) (heap : List Object) (called : ℕ) (f : Frame) : Type 0 where
  pub state : VerState
  pub covered : typings f.method f.position ≡ Some state
  pub locals : all_fit p (types_of_values p heap f.locals) state.locals ≡ true
  pub resumed : IsResumed p typings f.method (position_behind p f) (types_of_frame p heap f) (type_handed p called)

-- under an initialisation a frame is attempted again as it stands
abbrev pub IsTypedUnder : Program → Typings → List Object → (kind : Kind) → (method : ℕ) → Frame → Type 0
IsTypedUnder p typings heap Call m f = IsTypedCaller p typings heap m f
IsTypedUnder p typings heap _ m f = IsTypedFrame p typings heap f

-- the frames under one of a kind and a method
abbrev pub AreTypedUnder : Program → Typings → List Object → (kind : Kind) → (method : ℕ) → List Frame → Type 0
AreTypedUnder p typings heap kind m [] = Unit {0}
AreTypedUnder p typings heap kind m (f ∷ below) = IsTypedUnder p typings heap kind m f × AreTypedUnder p typings heap f.kind f.method below

-- ---- native methods at their calls

abbrev pub IsOfType : Program → List Object → Option VerType → Value → Type 0
IsOfType p heap None v = ⊥
IsOfType p heap (Some t) v = fits p (type_of_value p heap v) t ≡ true

-- values are of the types of a descriptor, one by one
abbrev pub AreOfTypes : Program → List Object → (descriptor : List ℕ) → List JavaType → List Value → Type 0
AreOfTypes p heap d [] [] = Unit {0}
AreOfTypes p heap d (t ∷ ts) (v ∷ vs) = IsOfType p heap (type_of p d t) v × AreOfTypes p heap d ts vs
AreOfTypes p heap d _ _ = ⊥

-- an object of the method's class stands on the caller's operands
pub record IsOnReceiver (p : Program) (heap : List Object) (method : ℕ) (below rest : List Value) : Type 0 where
  pub object : ℕ
  pub is : below ≡ Ref object ∷ rest
  pub class : fits p (type_of_reference p heap object) (class_type p (current_class p method)) ≡ true

-- what stands under the arguments
abbrev pub IsUnderArguments : Program → List Object → (method : ℕ) → (static : Bool) → (below rest : List Value) → Type 0
IsUnderArguments p heap m true below rest = below ≡ rest
IsUnderArguments p heap m false below rest = IsOnReceiver p heap m below rest

-- the arguments stand on the operands, the receiver under them, and under that what the caller goes on with
pub record IsTypedNative (p : Program) (typings : Typings) (m : ℕ) (s : State) : Type 0 where
  pub numbered : ((method_at p m).native == 0) ≡ false
  pub values : List Value
  pub below : List Value
  pub rest : List Value
  pub taken : arguments_off (signature (method_at p m).descriptor).arguments s.top.operands ≡ Some (values, below)
  pub arguments : AreOfTypes p s.heap (method_at p m).descriptor (signature (method_at p m).descriptor).arguments values
  pub under : IsUnderArguments p s.heap m (has STATIC (method_at p m).flags) below rest
  pub waits : IsTypedCaller p typings s.heap m (record (s.top) { operands = rest })

-- ---- states

abbrev pub AreTypedStatics : Program → State → Type 0
AreTypedStatics p s = (f : ℕ) → is_static_field p f ≡ true → fits p (type_of_value p s.heap (item_or s.statics f Top)) (type_of_field p f) ≡ true

pub record IsTypedState (p : Program) (typings : Typings) (s : State) : Type 0 where
  pub heap : IsTypedHeap p s.heap
  pub statics : AreTypedStatics p s
  pub inits : length s.inits ≡ class_count p
  pub top : IsTypedFrame p typings s.heap s.top
  pub callers : AreTypedUnder p typings s.heap s.top.kind s.top.method s.callers

-- ---- outcomes

abbrev pub is_illegal : End → Bool
is_illegal (Illegal place) = true
is_illegal _ = false

-- an outcome goes on in such a state, raises and throws what is Throwable, has what a native method takes, and ends no run as illegal
abbrev pub IsTypedOutcome : Program → Typings → Outcome → Type 0
IsTypedOutcome p typings (Go s) = IsTypedState p typings s
IsTypedOutcome p typings (Raise class message s) = (is_throwable p class ≡ true) × IsTypedState p typings s
IsTypedOutcome p typings (Throw object s) = (object < length s.heap) × (is_throwable p (object_at s object).class ≡ true) × IsTypedState p typings s
IsTypedOutcome p typings (Begin class s) = IsTypedState p typings s
IsTypedOutcome p typings (Native m s) = IsTypedState p typings s × IsTypedNative p typings m s
IsTypedOutcome p typings (Write stream units s) = IsTypedState p typings s
IsTypedOutcome p typings (Ended end) = is_illegal end ≡ false

-- so does what follows it
abbrev pub IsTypedNext : Program → Typings → Next → Type 0
IsTypedNext p typings (Goes s) = IsTypedState p typings s
IsTypedNext p typings (Ends end) = is_illegal end ≡ false

-- and a run
abbrev pub IsTypedRun : Program → Typings → Run → Type 0
IsTypedRun p typings (Live g) = IsTypedState p typings g.state
IsTypedRun p typings (Over end g) = is_illegal end ≡ false
