-- Initialisation of classes (JVMS 5.5).
use Rattle.std.specs.List.{list_all, list_any, range_with_len}
use Rattle.std.specs.Prelude.{Bool, List, None, Option, Some, [], false, find, is_some, length, map, nat_lt, not, replicate, reverse, take_while, true, ℕ, ◌&&◌, ◌++◌, ◌+◌, ◌-◌, ◌∷◌}
use Rattle.vx_class.specs.declared.class_file.Code.{Code}
use Rattle.vx_java.specs.Machine.{Begin, Frame, Go, Here, Outcome, Raise, State, Top, Value, depth, frame_bound, in_state, init_at, raise, unsupported_in, when, with_inits}
use Rattle.vx_java.specs.Operation.{class_word}
use Rattle.vx_link.specs.ClassNames.{class_text, core_class}
use Rattle.vx_link.specs.Hierarchy.{is_among, superclasses, superinterfaces}
use Rattle.vx_link.specs.Parts.{class_at, class_count, is_abstract, is_instance, is_interface, method_at, methods_of}
use Rattle.vx_link.specs.declared.program.Program.{Program}
use Rattle.vx_value.specs.declared.key.Kind.{Kind}
use Rattle.vx_value.specs.declared.key.Kind.TheVariants.{Init, Wait}
use Rattle.vx_value.specs.declared.slot.InitState.{InitState}
use Rattle.vx_value.specs.declared.slot.InitState.TheVariants.{Done, Failed, Not, Running}

-- ---- chains

abbrev pub is_not : InitState → Bool
is_not Not = true
is_not _ = false

abbrev pub is_failed : InitState → Bool
is_failed Failed = true
is_failed _ = false

-- the class and its superclasses upward as long as their state is Not
abbrev pub init_chain : Program → List InitState → ℕ → List ℕ
init_chain p inits c = take_while (λ d. is_not (init_at inits d)) (superclasses p c)

abbrev pub has_failed : List InitState → Option ℕ → Bool
has_failed inits None = false
has_failed inits (Some d) = is_failed (init_at inits d)

-- the first class above the chain is Failed
abbrev pub is_below_failed : Program → List InitState → ℕ → Bool
is_below_failed p inits c = has_failed inits (find (λ d. not (is_not (init_at inits d))) (superclasses p c))

-- ---- blocking interfaces (JVMS 5.5, Java SE 8: an interface with such a method would be initialised before its classes)

-- an interface with a <clinit> and a method that is neither abstract nor static
abbrev pub blocks : Program → ℕ → Bool
blocks p i =
    (class_at p i).own_initialiser
    && list_any (λ m. is_instance (method_at p m) && not (is_abstract (method_at p m))) (methods_of p i)

-- the first blocking interface of a class by its number; an interface itself has none
abbrev pub blocked : Program → ℕ → Option ℕ
blocked p c =
    elim (is_interface p c) [
      | true ↦ None
      | false ↦ find (λ i. blocks p i && is_among i (superinterfaces p c)) (range_with_len 0 (class_count p))
    ]

-- the blocking interface of the first class of a chain that has one
abbrev pub chain_blocked : Program → List ℕ → Option ℕ
chain_blocked p [] = None
chain_blocked p (c ∷ cs) = elim (blocked p c) [ Some i ↦ Some i | None ↦ chain_blocked p cs ]

-- no class of the chain has a <clinit> or a blocking interface, and the first class above it is not Failed
abbrev pub quiet_chain : Program → List InitState → ℕ → Bool
quiet_chain p inits c =
    list_all (λ d. not (class_at p d).own_initialiser && not (is_some (blocked p d))) (init_chain p inits c)
    && not (is_below_failed p inits c)

-- ---- a row that needs a class initialised

-- a quiet chain is marked in the same attempt; any other begins, and the row is attempted again later
abbrev pub when_not : Here → ℕ → Bool → (Here → Outcome) → Outcome
when_not h c true rest = rest (in_state h (with_inits h.state Done (init_chain h.program h.state.inits c)))
when_not h c false rest = Begin c h.state

-- a class in progress proceeds, and one whose initialisation failed is not there any more
abbrev pub by_state : Here → ℕ → InitState → (Here → Outcome) → Outcome
by_state h c Done rest = rest h
by_state h c Running rest = rest h
by_state h c Failed rest = raise h "java/lang/NoClassDefFoundError"
by_state h c Not rest = when_not h c (quiet_chain h.program h.state.inits c) rest

abbrev pub when_initialised : Here → ℕ → (Here → Outcome) → Outcome
when_initialised h c rest = by_state h c (init_at h.state.inits c) rest

-- ---- beginning

abbrev pub max_locals : Option Code → ℕ
max_locals None = 0
max_locals (Some code) = code.max_locals

-- a frame at the start of a method, whose locals begin with these values
abbrev pub new_frame : Program → Kind → ℕ → List Value → Frame
new_frame p kind m values =
    record {
      kind = kind;
      method = m;
      position = 0;
      locals = values ++ replicate (max_locals (method_at p m).code - length values) Top;
      operands = [];
    }

abbrev pub init_frame : Program → Kind → ℕ → Frame
init_frame p kind c = new_frame p kind (class_at p c).initialiser.0 []

-- the frames of a chain from the last class down, the last one Init and those below it Wait
abbrev pub with_frames : Program → State → List ℕ → State
with_frames p s [] = s
with_frames p s (c ∷ below) =
    record s { top = init_frame p Init c; callers = map (init_frame p Wait) below ++ (s.top ∷ s.callers) }

abbrev pub pushed_chain : Program → State → List ℕ → State
pushed_chain p s chain = with_frames p (with_inits s Running chain) (reverse chain)

abbrev pub begin_free : Program → State → ℕ → List ℕ → Outcome
begin_free p s c chain =
    when (is_below_failed p s.inits c) (Raise (core_class p "java/lang/NoClassDefFoundError") None (with_inits s Failed chain))
    (when (nat_lt frame_bound (depth s + length chain)) (Raise (core_class p "java/lang/StackOverflowError") None s)
    (Go (pushed_chain p s chain)))

abbrev pub begin_chain : Program → State → ℕ → List ℕ → Option ℕ → Outcome
begin_chain p s c chain (Some i) = unsupported_in p s class_word (class_text p i)
begin_chain p s c chain None = begin_free p s c chain

-- a blocking interface ends the run; a Failed class above marks the chain; one frame too many marks nothing
abbrev pub begin : Program → State → ℕ → Outcome
begin p s c = let chain = init_chain p s.inits c in begin_chain p s c chain (chain_blocked p chain)
