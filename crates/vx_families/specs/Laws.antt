-- Laws of changes: one after another, and what comes of groups and outcomes where the heap changed (own).
use Rattle.std.specs.Prelude.{◌≡◌, Bool, true, false, List, ◌||◌, length, Option}
use Rattle.vx_space.specs.Sets.{Sets, Extends}
use Rattle.vx_group.specs.declared.callers.Caller.{Caller}
use Rattle.vx_group.specs.Callers.{Keeps}
use Rattle.vx_group.specs.Group.{GroupView, path_of}
use Rattle.vx_heap.specs.Heap.{Globals, HeapView, IsHeap, globals_at}
use Rattle.vx_java.specs.Machine.{State}
use Rattle.vx_java.specs.Machine.{Outcome as PlainOutcome}
use Rattle.vx_link.specs.declared.program.Program.{Program}
use Rattle.vx_outcome.specs.declared.outcome.Outcome.{Outcome}
use Rattle.vx_group_states.specs.Stands.{Attempts, CameTo, Grows, StandsIn, state_at}
use Rattle.vx_families.specs.Changing.{IsChangedIn, changed_in, with_globals}

-- two changes, one after the other, are one in the union of their sets
abbrev pub ChangesFollow : (S I : Type 0) → Type 0
ChangesFollow S I =
    (s0 s1 s2 : Sets I) (before middle after : HeapView S I) (a b : List Bool → Bool) (f g : List Bool → Globals → Globals)
    → IsChangedIn s0 s1 before middle a f → IsChangedIn s1 s2 middle after b g
    → IsChangedIn s0 s2 before after (λ c. a c || b c) (λ c x. changed_in b g c (changed_in a f c x))

-- a heap whose static fields and initialisation states alone are others is changed in each set outside of which they are the same
abbrev pub StaticsChangeIn : (S I : Type 0) → Type 0
StaticsChangeIn S I =
    (old new : Sets I) (before after : HeapView S I) (set : List Bool → Bool) (change : List Bool → Globals → Globals)
    → IsHeap new after → after ≡ record before { statics = after.statics; inits = after.inits }
    → length after.statics ≡ length before.statics → length after.inits ≡ length before.inits
    → ((c : List Bool) → globals_at new after c ≡ change c (globals_at old before c))
    → ((c : List Bool) → set c ≡ false → (g : Globals) → change c g ≡ g)
    → IsChangedIn old new before after set change

-- Outcomes in a set that a later heap leaves alone stay outcomes of that set, over a later space and a tree that keeps its nodes.
abbrev pub OutcomesStay : (S I : Type 0) → Type 0
OutcomesStay S I =
    (p : Program) (start old new : Sets I) (before after : HeapView S I) (tree later : List (Option (Caller S I))) (group : GroupView S I)
    (what : List Bool → PlainOutcome) (set : List Bool → Bool) (outcomes : List (Outcome S I))
    → Extends old new → IsHeap old before → Grows before after → Keeps tree later
    → ((c : List Bool) → set c ≡ true → globals_at new after c ≡ globals_at old before c)
    → CameTo p start old before tree group what set outcomes → CameTo p start new after later group what set outcomes

-- An attempt where the heap changed first, in a set inside the path, and then calls said what comes of the group over the later heap: at each configuration it is what is said of the state there after the change.
abbrev pub AttemptsFollow : (S I : Type 0) → Type 0
AttemptsFollow S I =
    (p : Program) (says : State → PlainOutcome) (there : List Bool → State → PlainOutcome) (s0 s1 s2 : Sets I) (before after : HeapView S I)
    (set : List Bool → Bool) (change : List Bool → Globals → Globals) (tree later : List (Option (Caller S I))) (group : GroupView S I) (outcomes : List (Outcome S I))
    → IsHeap s0 before → StandsIn p s0 before tree group → Extends s0 s1 → IsChangedIn s0 s1 before after set change
    → ((c : List Bool) → set c ≡ true → s0.test (path_of group) c ≡ true) → Extends s1 s2 → Keeps tree later
    → ((c : List Bool) → s0.test (path_of group) c ≡ true → there c (with_globals (state_at s0 before tree group c) (changed_in set change c (globals_at s0 before c))) ≡ says (state_at s0 before tree group c))
    → CameTo p s1 s2 after later group (λ c. there c (state_at s1 after later group c)) (s1.test (path_of group)) outcomes
    → Attempts p says s0 s2 before after tree later group outcomes
