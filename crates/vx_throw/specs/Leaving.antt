-- What leaves a frame that doesn't take it: the class of an initialisation has failed, and what is no Error becomes the cause of a new exception (JVMS 5.5).
use Rattle.std.specs.Prelude.{◌≡◌, ◌&&◌, ◌∷◌, [], ℕ, Bool, true, false, List, None, Option, Some, if◌then◌else◌, length, not}
use Rattle.vx_cond.specs.Cond.{Conditional, IsCond}
use Rattle.vx_cond.specs.Slots.{slot_at}
use Rattle.vx_group.specs.Group.{path_of}
use Rattle.vx_group_states.specs.Stands.{IsThrown}
use Rattle.vx_heap.specs.Changing.{IsChangedIn, with_object}
use Rattle.vx_heap.specs.Heap.{Globals, HeapView, IsHeap, class_at_slot, globals_at}
use Rattle.vx_java.specs.Ids.{HasClassNumbers}
use Rattle.vx_java.specs.Machine.{Null, Object, Ref, no_object}
use Rattle.vx_java.specs.Throwing.{throwable}
use Rattle.vx_link.specs.Assignability.{assignable}
use Rattle.vx_link.specs.ClassNames.{core_class}
use Rattle.vx_link.specs.Parts.{method_at}
use Rattle.vx_link.specs.declared.program.Program.{Program}
use Rattle.vx_list.specs.Places.{item_or}
use Rattle.vx_ready.specs.Initialising.{with_state}
use Rattle.vx_space.specs.Sets.{Sets}
use Rattle.vx_throw.specs.Flights.{thrown_at}
use Rattle.vx_throw.specs.Landings.{AreObjectsHeld}
use Rattle.vx_throw.specs.declared.handling.Flight.{Flight}
use Rattle.vx_value.specs.Slot.{slot_cmp}
use Rattle.vx_value.specs.declared.ids.ClassId.{ClassId}
use Rattle.vx_value.specs.declared.key.Kind.{Kind}
use Rattle.vx_value.specs.declared.key.Kind.TheVariants.{Call}
use Rattle.vx_value.specs.declared.slot.InitState.TheVariants.{Failed}
use Rattle.vx_value.specs.declared.slot.Slot.{Slot}

-- ---- one configuration

-- an object of a plain heap is an Error
abbrev pub is_error_in : Program → List Object → (object : ℕ) → Bool
is_error_in p objects r = assignable p (item_or objects r no_object).class (core_class p "java/lang/Error")

-- the same of the object that a slot names, by its class
abbrev pub is_error_of : Program → (error : ℕ) → Option ClassId → Bool
is_error_of p error None = false
is_error_of p error (Some class) = assignable p class.0 error

abbrev pub is_error_at : {S I : Type 0} → Program → HeapView S I → (error : ℕ) → Slot → Bool
is_error_at p heap error slot = is_error_of p error (class_at_slot heap slot)

-- the exception whose cause is an object
abbrev pub wrapper_of : Program → (object : ℕ) → Object
wrapper_of p r = throwable p (core_class p "java/lang/ExceptionInInitializerError") Null (Ref r)

-- what is no Error is the cause of a new one, which stands behind what stood there
abbrev pub wrapped : Program → (object : ℕ) → Globals → Globals
wrapped p r g = if is_error_in p g.objects r then g else with_object (wrapper_of p r) g

-- and is thrown in its place
abbrev pub wrapped_object : Program → (object : ℕ) → Globals → ℕ
wrapped_object p r g = if is_error_in p g.objects r then r else length g.objects

-- what stands there when an object has left a frame of a kind, in a method of a class: the initialisation of that class has failed
abbrev pub left_globals : Program → Kind → (class object : ℕ) → Globals → Globals
left_globals p Call class r g = g
left_globals p _ class r g = wrapped p r (with_state Failed (class ∷ []) g)

-- and what is thrown on
abbrev pub left_object : Program → Kind → (object : ℕ) → Globals → ℕ
left_object p Call r g = r
left_object p _ r g = wrapped_object p r g

-- ---- all configurations of a path

-- what is thrown is no Error
abbrev pub is_other_in : {S I : Type 0} → Program → Sets I → HeapView S I → Conditional Slot S I → List Bool → Bool
is_other_in p sets heap objects c =
    sets.test objects.scope c && not (is_error_at p heap (core_class p "java/lang/Error") (slot_at sets objects c))

-- objects of one scope that are there
pub record MayWrap {S I : Type 0} (p : Program) (sets : Sets I) (heap : HeapView S I) (objects : Conditional Slot S I) : Type 0 where
  pub classes : HasClassNumbers p
  pub is_heap : IsHeap sets heap
  pub is_cond : IsCond slot_cmp sets objects
  pub held : AreObjectsHeld sets heap objects.scope objects

-- objects of one scope were wrapped where they are no Errors
pub record AreWrapped {S I : Type 0} (p : Program) (old new : Sets I) (before after : HeapView S I) (objects thrown : Conditional Slot S I) : Type 0 where
  pub changed : IsChangedIn old new before after (old.test objects.scope) (λ c. wrapped p (thrown_at old before objects c))
  pub is_cond : IsCond slot_cmp new thrown
  pub scope : thrown.scope ≡ objects.scope
  pub held : AreObjectsHeld new after objects.scope thrown
  pub named : (c : List Bool) → old.test objects.scope c ≡ true → thrown_at new after thrown c ≡ wrapped_object p (thrown_at old before objects c) (globals_at old before c)

-- what is thrown has left the frame on top, and is thrown on by the same group
pub record HasLeft {S I : Type 0} (p : Program) (old new : Sets I) (before after : HeapView S I) (flight left : Flight S I) : Type 0 where
  pub group : left.group ≡ flight.group
  pub changed : IsChangedIn old new before after (old.test (path_of flight.group)) (λ c. left_globals p flight.group.top.kind (method_at p flight.group.top.method.0).class.0 (thrown_at old before flight.objects c))
  pub thrown : IsThrown new after left.group left.objects
  pub object : (c : List Bool) → old.test (path_of flight.group) c ≡ true → thrown_at new after left.objects c ≡ left_object p flight.group.top.kind (thrown_at old before flight.objects c) (globals_at old before c)
