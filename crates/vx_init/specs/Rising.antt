-- How far the classes whose initialisation has not begun go up from a class, and what that comes to, at one configuration (JVMS 5.5).
use Rattle.std.specs.Prelude.{◌+◌, ℕ, Bool, true, false, List, [], ◌∷◌, Option, Some, None, if◌then◌else◌, length, nat_lt, option_map, reverse}
use Rattle.vx_heap.specs.Heap.{Globals}
use Rattle.vx_java.specs.Ids.{as_class}
use Rattle.vx_java.specs.Initialisation.{blocked, with_frames}
use Rattle.vx_java.specs.Machine.{Go, Outcome, Raise, State, depth, frame_bound, init_at, unsupported_in, when}
use Rattle.vx_java.specs.Operation.{class_word}
use Rattle.vx_link.specs.ClassNames.{core_class}
use Rattle.vx_link.specs.Hierarchy.{chain_within, superclasses}
use Rattle.vx_link.specs.Parts.{class_at, class_count}
use Rattle.vx_link.specs.declared.program.Program.{Program}
use Rattle.vx_ready.specs.Initialising.{with_state}
use Rattle.vx_value.specs.declared.ids.ClassId.{ClassId}
use Rattle.vx_value.specs.declared.slot.InitState.{InitState}
use Rattle.vx_value.specs.declared.slot.InitState.TheVariants.{Not, Running, Done, Failed}
use Rattle.vx_init.specs.declared.rise.Rise.{Rise}
use Rattle.vx_init.specs.declared.rise.Rise.TheVariants.{Open, Begins, Fails, Blocked}

-- ---- one class after the other

abbrev pub is_open : Rise → Bool
is_open Open = true
is_open _ = false

abbrev pub if_blocked : Option ClassId → Rise
if_blocked None = Open
if_blocked (Some i) = Blocked i

-- a class by its state, with so many below it that have not begun, and the interface that would be initialised before it
abbrev pub above : InitState → (below : ℕ) → Option ClassId → Rise
above Not below blocking = if_blocked blocking
above Failed below blocking = Fails below
above Running below blocking = Begins below
above Done below blocking = Begins below

abbrev pub climbed : Rise → InitState → (below : ℕ) → Option ClassId → Rise
climbed Open state below blocking = above state below blocking
climbed rise state below blocking = rise

-- a class by its state in a list
abbrev pub climbed_at : Program → List InitState → (below class : ℕ) → Rise → Rise
climbed_at p inits below class rise = climbed rise (init_at inits class) below (option_map as_class (blocked p class))

-- the classes of a list upward, the first of them with so many below it
abbrev pub rise_on : Program → List InitState → (below : ℕ) → List ℕ → Rise → Rise
rise_on p inits below [] rise = rise
rise_on p inits below (class ∷ classes) rise = rise_on p inits (below + 1) classes (climbed_at p inits below class rise)

abbrev pub rise_of : Program → List InitState → ℕ → Rise
rise_of p inits class = rise_on p inits 0 (superclasses p class) Open

-- ---- what begins

-- a class and its superclasses upward, so many at most
abbrev pub first_above : Program → (class most : ℕ) → List ℕ
first_above p class most = chain_within p most (Some class)

-- with the frames of a chain there would be too many
abbrev pub too_many : (frames : ℕ) → List ℕ → Bool
too_many frames chain = nat_lt frame_bound (frames + length chain)

-- the marks of a beginning, where a run has so many frames
abbrev pub running : (frames : ℕ) → List ℕ → Globals → Globals
running frames chain g = if too_many frames chain then g else with_state Running chain g

abbrev pub marked_by : Program → (class frames : ℕ) → Rise → Globals → Globals
marked_by p class frames Open g = running frames (first_above p class (class_count p)) g
marked_by p class frames (Begins n) g = running frames (first_above p class n) g
marked_by p class frames (Fails n) g = with_state Failed (first_above p class n) g
marked_by p class frames (Blocked i) g = g

-- what comes of the state in which these marks are
abbrev pub pushed : Program → List ℕ → State → Outcome
pushed p chain s =
    when (too_many (depth s) chain) (Raise (core_class p "java/lang/StackOverflowError") None s) (Go (with_frames p s (reverse chain)))

abbrev pub begun_by : Program → (class : ℕ) → Rise → State → Outcome
begun_by p class Open s = pushed p (first_above p class (class_count p)) s
begun_by p class (Begins n) s = pushed p (first_above p class n) s
begun_by p class (Fails n) s = Raise (core_class p "java/lang/NoClassDefFoundError") None s
begun_by p class (Blocked i) s = unsupported_in p s class_word (class_at p i.0).name

-- ---- by the value of a configuration, if it has one

abbrev pub marked_if : Program → (class frames : ℕ) → Option Rise → Globals → Globals
marked_if p class frames None g = g
marked_if p class frames (Some rise) g = marked_by p class frames rise g

abbrev pub rise_or_open : Option Rise → Rise
rise_or_open None = Open
rise_or_open (Some rise) = rise
