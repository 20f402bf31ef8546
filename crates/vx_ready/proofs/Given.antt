-- What is given of a family runs, and its attempts where no class is made ready.
use Rattle.std.proofs.Common.{◌≡◌, ℕ, Bool, true, false, List, ◌&&◌, refl}
use Rattle.std.specs.Prelude.{Option}
use Rattle.vx_families.proofs.Given.{given_operands_held, given_past}
use Rattle.vx_families.specs.Attempts.{AttemptsBy, IsGiven}
use Rattle.vx_group.specs.Group.{GroupView, IsGroup, path_of}
use Rattle.vx_group.specs.declared.callers.Caller.{Caller}
use Rattle.vx_group_states.specs.Sites.{Gives}
use Rattle.vx_group_states.specs.Stands.{StandsIn, state_at}
use Rattle.vx_group_states.specs.declared.site.Site.{Site}
use Rattle.vx_heap.specs.Heap.{Globals, HeapView, IsHeap, IsHeapFor}
use Rattle.vx_java.specs.Machine.{State}
use Rattle.vx_java.specs.Machine.{Outcome as PlainOutcome}
use Rattle.vx_java.specs.declared.operation.Operation.{Operation}
use Rattle.vx_link.specs.declared.program.Program.{Program}
use Rattle.vx_outcome.specs.declared.outcome.Outcome.{Outcome}
use Rattle.vx_ready.proofs.Attempting.{AttemptsBy-changed}
use Rattle.vx_ready.proofs.Changes.{IsChanged-none}
use Rattle.vx_ready.specs.Initialising.{readied}
use Rattle.vx_ready.specs.Running.{IsRunning}
use Rattle.vx_space.proofs.Spaces.{Extends-refl}
use Rattle.vx_space.specs.Sets.{Extends, Sets}

-- what is given of a family
pub IsRunning-given : {S I : Type 0} (site : Site) (operation : Operation) (sets : Sets I) (heap : HeapView S I) (group : GroupView S I) → IsGiven site operation sets heap group → IsRunning site sets heap group
IsRunning-given site operation sets heap group given = record {
  classes = given.bounded.classes;
  is_heap = given.is_heap;
  is_for = given.is_for;
  is_group = given.is_group;
  runs = given.runs;
  past = given_past site operation sets heap group given;
  held = given_operands_held site operation sets heap group given;
}

-- an attempt over the heap that stays
pub AttemptsBy-stays : {S I : Type 0} (site : Site) (says : State → PlainOutcome) {s0 s1 : Sets I} (heap : HeapView S I) (group : GroupView S I) (there : State → PlainOutcome) (outcomes : List (Outcome S I)) → IsHeap s0 heap → IsHeapFor site.program.now heap → IsGroup s0 group → Extends s0 s1 → ((tree : List (Option (Caller S I))) → StandsIn site.program.now s0 heap tree group → (c : List Bool) → s0.test (path_of group) c ≡ true → there (state_at s0 heap tree group c) ≡ says (state_at s0 heap tree group c)) → Gives site.program.now there s1 s1 group outcomes → AttemptsBy site says s0 s1 heap heap group outcomes
AttemptsBy-stays site says {s1 = s1} heap group there outcomes v h w e law gives = AttemptsBy-changed heap heap (λ c x. x) (IsChanged-none e heap v) site says group (λ _ _. there) outcomes v h w e (λ c t x. refl) (Extends-refl s1) law (gives heap)

pub and_none : (a b : Bool) → a ≡ false → (a && b) ≡ false
and_none a b h = rw h refl

pub unready : (p : Program) (class : ℕ) (n : Bool) (x : Globals) → n ≡ false → readied p class n x ≡ x
unready p class n x h = rw h refl
