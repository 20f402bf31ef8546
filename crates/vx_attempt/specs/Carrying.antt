-- Outcomes that are carried out in the attempt that came to them: native methods and beginnings, and then exceptions that are thrown.
use Rattle.std.specs.Prelude.{◌≡◌, ◌<◌, ◌||◌, Bool, true, false, List, [], ◌∷◌, length, Option}
use Rattle.vx_space.specs.Sets.{Sets, IsKnown}
use Rattle.vx_group.specs.declared.callers.Caller.{Caller}
use Rattle.vx_group.specs.Callers.{Keeps}
use Rattle.vx_group.specs.Group.{GroupView, path_of}
use Rattle.vx_heap.specs.Heap.{HeapView, IsHeap, IsHeapFor, globals_at}
use Rattle.vx_families.specs.Attempts.{IsAtSite}
use Rattle.vx_families.specs.Bounds.{IsBounded}
use Rattle.vx_java.specs.Machine.{Begin, Native}
use Rattle.vx_java.specs.Machine.{Outcome as PlainOutcome}
use Rattle.vx_java.specs.declared.operation.Operation.{Operation}
use Rattle.vx_link.specs.declared.program.Program.{Program}
use Rattle.vx_outcome.specs.Outcome.{condition_of}
use Rattle.vx_outcome.specs.declared.outcome.Outcome.{Outcome}
use Rattle.vx_outcome.specs.declared.outcome.Outcome.TheVariants as shared
use Rattle.vx_group_states.specs.Stands.{CameTo, Grows, IsMessage, IsThrown, StandsIn}
use Rattle.vx_group_states.specs.declared.site.Site.{Site}

-- ---- outcomes by themselves

-- over this heap and this tree: the group of an outcome stands there, and what it names is there
abbrev pub IsThere : {S I : Type 0} → Program → Sets I → HeapView S I → List (Option (Caller S I)) → Outcome S I → Type 0
IsThere p sets heap tree (shared.Go group) = StandsIn p sets heap tree group
IsThere p sets heap tree (shared.Raise group class message) = StandsIn p sets heap tree group × IsMessage heap message
IsThere p sets heap tree (shared.Throw group thrown) = StandsIn p sets heap tree group × IsThrown sets heap group thrown
IsThere p sets heap tree (shared.Begin group class) = StandsIn p sets heap tree group
IsThere p sets heap tree (shared.Native group method) = StandsIn p sets heap tree group
IsThere p sets heap tree (shared.Write group stream text) = StandsIn p sets heap tree group × (text < length heap.texts)
IsThere p sets heap tree (shared.Ended condition end) = IsKnown sets condition

abbrev pub AreThere : {S I : Type 0} → Program → Sets I → HeapView S I → List (Option (Caller S I)) → List (Outcome S I) → Type 0
AreThere p sets heap tree [] = Unit {0}
AreThere p sets heap tree (item ∷ items) = IsThere p sets heap tree item × AreThere p sets heap tree items

-- a native method to which some configuration comes was left at its call
abbrev pub IsAtCall : {S I : Type 0} → Site → Sets I → Outcome S I → Type 0
IsAtCall site sets (shared.Native group method) = (c : List Bool) → sets.test (path_of group) c ≡ true → (operation : Operation) × IsAtSite site operation group
IsAtCall site sets item = Unit {0}

abbrev pub AreAtCalls : {S I : Type 0} → Site → Sets I → List (Outcome S I) → Type 0
AreAtCalls site sets [] = Unit {0}
AreAtCalls site sets (item ∷ items) = IsAtCall site sets item × AreAtCalls site sets items

-- what has to be so before exceptions are thrown
pub record MayThrow {S I : Type 0} (p : Program) (sets : Sets I) (heap : HeapView S I) (tree : List (Option (Caller S I))) (items : List (Outcome S I)) : Type 0 where
  pub bounded : IsBounded p
  pub is_heap : IsHeap sets heap
  pub is_for : IsHeapFor p heap
  pub there : AreThere p sets heap tree items

-- what has to be so before native methods and beginnings are carried out
pub record MayCarryOut {S I : Type 0} (site : Site) (sets : Sets I) (heap : HeapView S I) (tree : List (Option (Caller S I))) (items : List (Outcome S I)) : Type 0 where
  pub may : MayThrow site.program.now sets heap tree items
  pub at_calls : AreAtCalls site sets items

-- ---- what they come to

-- some outcome's condition holds a configuration
abbrev pub is_covered : {S I : Type 0} → Sets I → List (Outcome S I) → List Bool → Bool
is_covered sets [] c = false
is_covered sets (item ∷ items) c = sets.test (condition_of item) c || is_covered sets items c

-- Outcomes were carried out: of whatever these are the outcomes, those are the outcomes of what is made of what each configuration came to. At a configuration that came to none of these the plain heap stays; objects, texts and callers stay under their numbers.
pub record AreCarriedOut {S I : Type 0} (p : Program) (carry : PlainOutcome → PlainOutcome) (old new : Sets I) (before after : HeapView S I) (tree later : List (Option (Caller S I))) (items made : List (Outcome S I)) : Type 0 where
  pub is_heap : IsHeap new after
  pub is_for : IsHeapFor p after
  pub grows : Grows before after
  pub keeps : Keeps tree later
  pub came : (start : Sets I) (group : GroupView S I) (what : List Bool → PlainOutcome) (set : List Bool → Bool) → CameTo p start old before tree group what set items → CameTo p start new after later group (λ c. carry (what c)) set made
  pub outside : (c : List Bool) → is_covered old items c ≡ false → globals_at new after c ≡ globals_at old before c

-- a native method or a beginning, which is carried out in its attempt
abbrev pub is_uncarried : PlainOutcome → Bool
is_uncarried (Native m s) = true
is_uncarried (Begin c s) = true
is_uncarried o = false

-- of whatever these are the outcomes, some configuration comes to a native method or a beginning
pub record SomeUncarried {S I : Type 0} (p : Program) (sets : Sets I) (heap : HeapView S I) (tree : List (Option (Caller S I))) (items : List (Outcome S I)) : Type 0 where
  pub config : List Bool
  pub comes : (start : Sets I) (group : GroupView S I) (what : List Bool → PlainOutcome) (set : List Bool → Bool) → CameTo p start sets heap tree group what set items → (set config ≡ true) × (is_uncarried (what config) ≡ true)

-- none does
abbrev pub NoneUncarried : {S I : Type 0} → Program → Sets I → HeapView S I → List (Option (Caller S I)) → List (Outcome S I) → Type 0
NoneUncarried p sets heap tree items = SomeUncarried p sets heap tree items → ⊥
