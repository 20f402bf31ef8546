-- How each family ends: from what its calls say of the group to the attempt, over the heap that it was given or over one with more texts.
use Rattle.std.proofs.Common.{◌≡◌, Bool, true, List, refl, sym, ◌∙◌, ap, subst}
use Rattle.std.specs.Prelude.{Option}
use Rattle.vx_space.specs.Sets.{Sets, Extends}
use Rattle.vx_space.proofs.Spaces.{Extends-refl, Extends-trans}
use Rattle.vx_group.specs.declared.callers.Caller.{Caller}
use Rattle.vx_group.specs.Group.{GroupView, path_of}
use Rattle.vx_group.proofs.CallerLaws.{Keeps-refl}
use Rattle.vx_group.proofs.GroupLaws.{IsGroup-path_known}
use Rattle.vx_heap.specs.Heap.{HeapView}
use Rattle.vx_heap.proofs.HeapLaws.{IsHeap-extends, globals_at-extends}
use Rattle.vx_java.specs.Machine.{State}
use Rattle.vx_java.specs.Machine.{Outcome as PlainOutcome}
use Rattle.vx_java.specs.declared.operation.Operation.{Operation}
use Rattle.vx_outcome.specs.declared.outcome.Outcome.{Outcome}
use Rattle.vx_group_states.specs.Sites.{Gives, GivesAt}
use Rattle.vx_group_states.specs.Stands.{StandsIn, state_at}
use Rattle.vx_group_states.specs.declared.site.Site.{Site}
use Rattle.vx_group_states.proofs.OutcomeStates.{CameTo-same, CameTo-through}
use Rattle.vx_group_states.proofs.StateLaws.{Continues-same, StandsIn-extends, state_at-extends}
use Rattle.vx_families.specs.Attempts.{AttemptsBy, AttemptsIn, IsAttemptBy, IsGiven}
use Rattle.vx_families.specs.Texts.{HasMoreTexts}
use Rattle.vx_families.proofs.MoreTexts.{Grows-texts, HasMoreTexts-refl, IsHeap-texts, IsHeapFor-texts, StandsIn-texts, globals_at-texts, state_at-texts}

-- ---- the general law

-- Texts were put, the space was extended, and then a call said what comes of the group over the later heap, by another function of the configuration and the state that comes to the same.
pub AttemptsBy-texts : {S I : Type 0} (site : Site) (operation : Operation) (says : State → PlainOutcome) {s0 s1 s2 : Sets I} (before after : HeapView S I) (group : GroupView S I) (there : HeapView S I → List Bool → State → PlainOutcome) (outcomes : List (Outcome S I)) → HasMoreTexts before after → Extends s0 s1 → Extends s1 s2 → IsGiven site operation s0 before group → ((tree : List (Option (Caller S I))) → StandsIn site.program.now s0 before tree group → (c : List Bool) → s0.test (path_of group) c ≡ true → there after c (state_at s0 before tree group c) ≡ says (state_at s0 before tree group c)) → GivesAt site.program.now there s1 s2 group outcomes after → AttemptsBy site says s0 s2 before after group outcomes
AttemptsBy-texts site operation says {s0 = s0} {s1 = s1} {s2 = s2} before after group there outcomes m e f given law gives =
    let p = site.program.now in
    let v = IsHeap-texts s0 before after m given.is_heap in
    record {
      is_for = IsHeapFor-texts p before after m given.is_for;
      attempts = λ tree s.
          let later = StandsIn-texts p s0 before after tree group m s in
          let same : (c : List Bool) → s0.test (path_of group) c ≡ true → state_at s1 after tree group c ≡ state_at s0 before tree group c = λ c t. state_at-extends tree e after v group later.is_group c ∙ state_at-texts p s0 before after tree group m given.is_heap s c t in
          record {
            is_heap = IsHeap-extends (Extends-trans e f) after v;
            grows = Grows-texts before after m;
            keeps = Keeps-refl tree;
            came = CameTo-through p s0 s1 s2 after tree group group (λ c. there after c (state_at s1 after tree group c)) (λ c. says (state_at s0 before tree group c)) (s0.test (path_of group)) outcomes (Continues-same p tree e after v group later) (λ c. e.test (path_of group) c (IsGroup-path_known s0 group given.is_group)) (λ c t. ap (there after c) (same c t) ∙ law tree s c t) (gives tree (IsHeap-extends e after v) (StandsIn-extends p tree e after v group later));
            outside = λ c t. globals_at-extends (Extends-trans e f) after v c ∙ globals_at-texts s0 before after m given.is_heap c;
          };
    }

-- ---- the heap stays

-- by another function, over a later space
pub AttemptsBy-as : {S I : Type 0} (site : Site) (operation : Operation) (says : State → PlainOutcome) {s0 s1 s2 : Sets I} (heap : HeapView S I) (group : GroupView S I) (there : HeapView S I → List Bool → State → PlainOutcome) (outcomes : List (Outcome S I)) → Extends s0 s1 → Extends s1 s2 → IsGiven site operation s0 heap group → ((tree : List (Option (Caller S I))) → StandsIn site.program.now s0 heap tree group → (c : List Bool) → s0.test (path_of group) c ≡ true → there heap c (state_at s0 heap tree group c) ≡ says (state_at s0 heap tree group c)) → GivesAt site.program.now there s1 s2 group outcomes heap → AttemptsBy site says s0 s2 heap heap group outcomes
AttemptsBy-as site operation says heap group there outcomes e f given law gives = AttemptsBy-texts site operation says heap heap group there outcomes (HasMoreTexts-refl heap) e f given law gives

-- by the same function
pub AttemptsBy-gives : {S I : Type 0} (site : Site) (operation : Operation) (says : State → PlainOutcome) {old new : Sets I} (heap : HeapView S I) (group : GroupView S I) (outcomes : List (Outcome S I)) → Extends old new → IsGiven site operation old heap group → GivesAt site.program.now (λ _ _. says) old new group outcomes heap → AttemptsBy site says old new heap heap group outcomes
AttemptsBy-gives site operation says {old = old} heap group outcomes e given gives = AttemptsBy-as site operation says heap group (λ _ _. says) outcomes (Extends-refl old) e given (λ tree s c t. refl) gives

-- of a call that extends nothing and needs no space, as `illegal` and `raise`, after others that extended it
pub AttemptsBy-ended : {S I : Type 0} (site : Site) (operation : Operation) (says : State → PlainOutcome) {old new : Sets I} (heap : HeapView S I) (group : GroupView S I) (there : State → PlainOutcome) (outcomes : List (Outcome S I)) → Extends old new → IsGiven site operation old heap group → ((tree : List (Option (Caller S I))) → StandsIn site.program.now old heap tree group → (c : List Bool) → old.test (path_of group) c ≡ true → there (state_at old heap tree group c) ≡ says (state_at old heap tree group c)) → Gives site.program.now there new new group outcomes → AttemptsBy site says old new heap heap group outcomes
AttemptsBy-ended site operation says {new = new} heap group there outcomes e given law gives = AttemptsBy-as site operation says heap group (λ _ _. there) outcomes e (Extends-refl new) given law (gives heap)

-- over one tree
pub AttemptsIn-by : {S I : Type 0} (site : Site) (says : State → PlainOutcome) (old new : Sets I) (before after : HeapView S I) (tree : List (Option (Caller S I))) (group : GroupView S I) (outcomes : List (Outcome S I)) → StandsIn site.program.now old before tree group → AttemptsBy site says old new before after group outcomes → AttemptsIn site says old new before after tree tree group outcomes
AttemptsIn-by site says old new before after tree group outcomes s h = record { is_for = h.is_for; attempts = h.attempts tree s }

-- ---- the row of an operation

-- an operation that is known to be another one; `row_by` computes at a constructor
pub IsAttemptBy-is : {S I : Type 0} (site : Site) (operation other : Operation) (old new : Sets I) (before after : HeapView S I) (group : GroupView S I) (outcomes : List (Outcome S I)) → operation ≡ other → IsAttemptBy site other old new before after group outcomes → IsAttemptBy site operation old new before after group outcomes
IsAttemptBy-is site operation other old new before after group outcomes e h =
    let P : Operation → Type 0 = λ o. IsAttemptBy site o old new before after group outcomes in
    subst P (sym e) h

-- what is given of it is given of the other
pub IsGiven-is : {S I : Type 0} (site : Site) (operation other : Operation) (sets : Sets I) (heap : HeapView S I) (group : GroupView S I) → operation ≡ other → IsGiven site operation sets heap group → IsGiven site other sets heap group
IsGiven-is site operation other sets heap group e h =
    let P : Operation → Type 0 = λ o. IsGiven site o sets heap group in
    subst P e h

-- ---- another row

-- an attempt by another row that comes to the same
pub AttemptsBy-same : {S I : Type 0} (site : Site) (says other : State → PlainOutcome) (s0 s1 : Sets I) (before after : HeapView S I) (group : GroupView S I) (outcomes : List (Outcome S I)) → ((tree : List (Option (Caller S I))) (c : List Bool) → says (state_at s0 before tree group c) ≡ other (state_at s0 before tree group c)) → AttemptsBy site says s0 s1 before after group outcomes → AttemptsBy site other s0 s1 before after group outcomes
AttemptsBy-same site says other s0 s1 before after group outcomes law a = record {
  is_for = a.is_for;
  attempts = λ tree s.
      let made = a.attempts tree s in
      record {
        is_heap = made.is_heap;
        grows = made.grows;
        keeps = made.keeps;
        came = CameTo-same site.program.now s0 s1 after tree group (λ c. says (state_at s0 before tree group c)) (λ c. other (state_at s0 before tree group c)) (s0.test (path_of group)) (s0.test (path_of group)) outcomes (λ c. refl) (λ c t. law tree c) made.came;
        outside = made.outside;
      };
}
