-- The initialisation of a class where a row needs it, at each configuration of a path (JVMS 5.5).
use Rattle.std.specs.Prelude.{◌≡◌, ℕ, Bool, true, false, List, [], ◌∷◌, ◌&&◌, not, if◌then◌else◌, Option, Some, None, is_some, map}
use Rattle.vx_group.specs.Group.{GroupView}
use Rattle.vx_group.specs.declared.callers.Caller.{Caller}
use Rattle.vx_heap.specs.Heap.{Globals, HeapView, IsHeap, inits_at}
use Rattle.vx_java.specs.Initialisation.{blocked, init_chain, is_failed, quiet_chain}
use Rattle.vx_java.specs.Machine.{Begin, Outcome, Here, State, illegal, init_at, inits_with, raise, when}
use Rattle.vx_link.specs.Parts.{class_at}
use Rattle.vx_link.specs.declared.program.Program.{Program}
use Rattle.vx_outcome.specs.declared.outcome.Outcome.{Outcome as SharedOutcome}
use Rattle.vx_space.specs.Sets.{IsSet, Sets}
use Rattle.vx_group_states.specs.Sites.{here}
use Rattle.vx_group_states.specs.Stands.{CameTo, StandsIn, state_at}
use Rattle.vx_group_states.specs.declared.site.Site.{Site}
use Rattle.vx_value.specs.declared.ids.ClassId.{ClassId}
use Rattle.vx_value.specs.declared.slot.InitState.{InitState}
use Rattle.vx_value.specs.declared.slot.InitState.TheVariants.{Done}
use Rattle.vx_ready.specs.Changing.{IsChanged}
use Rattle.vx_ready.specs.declared.initialising.Mark.{Mark}
use Rattle.vx_ready.specs.declared.initialising.Readiness.{Readiness}

-- classes by their numbers
abbrev pub numbers_of : List ClassId → List ℕ
numbers_of classes = map (λ c. c.0) classes

-- ---- one configuration

abbrev pub has_failed : List InitState → ℕ → Bool
has_failed inits class = is_failed (init_at inits class)

-- marking a class has no other effect: it has no <clinit>, and no interface is initialised before it
abbrev pub is_quiet : Program → ℕ → Bool
is_quiet p class = not (class_at p class).own_initialiser && not (is_some (blocked p class))

-- the row goes on: its class has not failed, and marking what has not begun has no other effect
abbrev pub goes_on : Program → List InitState → ℕ → Bool
goes_on p inits class = not (has_failed inits class) && quiet_chain p inits class

-- classes get a state
abbrev pub with_state : InitState → List ℕ → Globals → Globals
with_state state classes g = record g { inits = inits_with g.inits state classes }

-- classes are initialised
abbrev pub with_done : List ℕ → Globals → Globals
with_done classes g = with_state Done classes g

-- the class and those above it that have not begun are initialised where the row goes on
abbrev pub readied : Program → (class : ℕ) → (there : Bool) → Globals → Globals
readied p class there g =
    if there && goes_on p g.inits class then with_done (init_chain p g.inits class) g else g

-- what comes of a run that doesn't go on: it breaks a rule where the row can't need the class; a class that failed is not there any more; any other begins
abbrev pub stopped : Here → (class : ℕ) → (needs failed : Bool) → Outcome
stopped h class needs failed = when needs (when failed (raise h "java/lang/NoClassDefFoundError") (Begin class h.state)) (illegal h)

-- ---- all configurations of a path

-- the answer at a configuration
abbrev pub is_yes : Option Bool → Bool
is_yes None = false
is_yes (Some answer) = answer

-- the classes of the marks whose condition holds a configuration
abbrev pub marked_at : {S I : Type 0} → Sets I → List (Mark S I) → List Bool → List ℕ
marked_at sets [] c = []
marked_at sets (mark ∷ marks) c =
    if sets.test mark.condition c then mark.class.0 ∷ marked_at sets marks c else marked_at sets marks c

-- each condition is known, and inside a set
abbrev pub AreMarks : {S I : Type 0} → Sets I → (set : List Bool → Bool) → List (Mark S I) → Type 0
AreMarks sets set [] = Unit {0}
AreMarks sets set (mark ∷ marks) =
    (sets.is_known mark.condition ≡ true) × ((c : List Bool) → sets.test mark.condition c ≡ true → set c ≡ true) × AreMarks sets set marks

-- the class was made ready inside a path
pub record IsReadied {S I : Type 0} (p : Program) (old new : Sets I) (before after : HeapView S I) (class : ℕ) (path : I) (readiness : Readiness S I) : Type 0 where
  pub fails : IsSet new readiness.fails (λ c. old.test path c && has_failed (inits_at old before c) class)
  pub proceeds : IsSet new readiness.proceeds (λ c. old.test path c && goes_on p (inits_at old before c) class)
  pub changed : IsChanged old new before after (λ c. readied p class (old.test path c))

-- what comes of the runs that don't proceed
abbrev pub stopped_by : {S I : Type 0} → Site → (class : ℕ) → Sets I → (needs : I) → (fails : I) → HeapView S I → List Bool → State → Outcome
stopped_by site class sets needs fails heap c s = stopped (here site s) class (sets.test needs c) (sets.test fails c)

-- what comes of all runs, where the row goes on so in those that proceed
abbrev pub proceeding : {S I : Type 0} → Site → (class : ℕ) → Sets I → (needs : I) → Readiness S I → (goes : State → Outcome) → HeapView S I → List Bool → State → Outcome
proceeding site class sets needs readiness goes heap c s = if sets.test readiness.proceeds c then goes s else stopped_by site class sets needs readiness.fails heap c s

-- the outcomes of a group in a set of its configurations: what this function of the configuration and the plain state there says
abbrev pub GivesWithin : {S I : Type 0} → Program → (HeapView S I → List Bool → State → Outcome) → (set : List Bool → Bool) → Sets I → Sets I → GroupView S I → List (SharedOutcome S I) → HeapView S I → Type 0
GivesWithin {S = S} {I = I} p says set old new group outcomes heap =
    (tree : List (Option (Caller S I))) → IsHeap old heap → StandsIn p old heap tree group → CameTo p old new heap tree group (λ c. says heap c (state_at old heap tree group c)) set outcomes
