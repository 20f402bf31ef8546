-- An exception that was made, thrown over the later heap: what comes of it is what raising comes to.
use Rattle.std.proofs.Common.{◌≡◌, ℕ, ◌+◌, ◌-◌, Bool, true, List, refl, sym, ◌∙◌, ap, arith, length}
use Rattle.std.specs.Prelude.{Option, Some, None, if◌then◌else◌}
use Rattle.vx_cond.proofs.CondLaws.{IsCond-of, cond_at-of}
use Rattle.vx_cond.specs.Cond.{Conditional, IsCondOf}
use Rattle.vx_cond.specs.Leaves.{value_within}
use Rattle.vx_cond.specs.Slots.{or_top, slot_at}
use Rattle.vx_frames.specs.Giving.{AttemptsAt}
use Rattle.vx_group.proofs.CallerLaws.{Keeps-refl}
use Rattle.vx_group.proofs.GroupLaws.{IsGroup-path_known, IsGroupIn-group, attempts_at-extends}
use Rattle.vx_group.specs.declared.callers.Caller.{Caller}
use Rattle.vx_group.specs.Group.{GroupView, path_of}
use Rattle.vx_group_states.proofs.GrownStates.{Grows-trans, StandsIn-grown, state_at-changed}
use Rattle.vx_group_states.proofs.OutcomeStates.{CameTo-through}
use Rattle.vx_group_states.specs.Stands.{Continues, is_object, message_of, object_named, state_at}
use Rattle.vx_heap.specs.Heap.{HeapView, globals_at, is_held}
use Rattle.vx_java.specs.Machine.{State, next_object, with_objects}
use Rattle.vx_java.specs.Throwing.{exception_objects, next_after_throw}
use Rattle.vx_link.specs.declared.program.Program.{Program}
use Rattle.vx_outcome.specs.declared.outcome.Outcome.{Outcome}
use Rattle.vx_space.specs.Sets.{Sets, Extends}
use Rattle.vx_standing.specs.Attempted.{outcome_of}
use Rattle.vx_value.specs.declared.slot.Slot.{Slot}
use Rattle.vx_value.specs.declared.slot.Slot.TheVariants.{Ref}
use Rattle.vx_value.specs.Slot.{slot_cmp}
use Rattle.vx_throw.specs.Exceptions.{IsRaising, raised_from}
use Rattle.vx_throw.specs.Flights.{IsFlight, thrown_from}
use Rattle.vx_throw.specs.Making.{IsExceptionMade, message_objects, raised_objects, with_raised}

-- ---- one configuration

objects_are : (p : Program) (s : State) (class : ℕ) (text : Option (List ℕ)) → raised_objects p class text (next_object s) ≡ exception_objects p s class text
objects_are p s class None = refl
objects_are p s class (Some units) = refl

-- the exception is the last of its objects
number_is : (p : Program) (s : State) (class : ℕ) (text : Option (List ℕ)) → next_object s + length (message_objects p text) ≡ next_object s + length (exception_objects p s class text) - 1
number_is p s class None = let n = next_object s in let same : n + 0 ≡ n + 1 - 1 = omega arith in same
number_is p s class (Some units) = let n = next_object s in let same : n + 1 ≡ n + 2 - 1 = omega arith in same

-- ---- all configurations of a path

module _ {S I : Type 0} (p : Program) {s0 s1 : Sets I} (before after : HeapView S I) (tree : List (Option (Caller S I))) (group : GroupView S I) (class : ℕ) (message : Option ℕ) (path : I) (object : ℕ) (thrown : Conditional Slot S I) (raising : IsRaising p s0 before tree group message) (is_path : path ≡ path_of group) (e01 : Extends s0 s1) (made : IsExceptionMade p s0 s1 before path class (message_of before message) after object) (scope : thrown.scope ≡ path) (of : IsCondOf slot_cmp s1 (value_within s1 path (λ _. Some (Ref object))) thrown) where
  known : s0.is_known (path_of group) ≡ true
  known = IsGroup-path_known s0 group (IsGroupIn-group s0 tree group raising.stands.is_group)

  path_before : (c : List Bool) → s1.test (path_of group) c ≡ true → s0.test path c ≡ true
  path_before c t = ap (λ i. s0.test i c) is_path ∙ sym (e01.test (path_of group) c known) ∙ t

  slot_there : (c : List Bool) → s1.test (path_of group) c ≡ true → slot_at s1 thrown c ≡ Ref object
  slot_there c t =
      ap or_top (cond_at-of slot_cmp s1 (value_within s1 path (λ _. Some (Ref object))) thrown c of)
      ∙ ap (λ b. or_top (if b then Some (Ref object) else None)) (ap (λ i. s1.test i c) is_path ∙ t)

  -- it is thrown by the group
  pub made_flight : IsFlight p s1 after tree (record { group = group; objects = thrown })
  made_flight = record {
    bounded = raising.bounded;
    is_heap = made.changed.is_heap;
    is_for = made.changed.keeps p raising.is_for;
    stands = StandsIn-grown p e01 (Keeps-refl tree) before after raising.is_heap made.changed.grows group raising.stands;
    thrown = record {
      is_cond = IsCond-of slot_cmp s1 (value_within s1 path (λ _. Some (Ref object))) thrown of;
      scope = scope ∙ is_path;
      object = λ c t. ap is_object (slot_there c t);
      held = λ c t. ap (is_held s1 after c) (slot_there c t) ∙ made.held c (path_before c t);
    };
  }

  -- the state over the heap with its objects
  raised_state : (c : List Bool) → s0.test (path_of group) c ≡ true → state_at s1 after tree group c ≡ with_objects (state_at s0 before tree group c) (exception_objects p (state_at s0 before tree group c) class (message_of before message))
  raised_state c t =
      let s = state_at s0 before tree group c in
      let text = message_of before message in
      state_at-changed p e01 (Keeps-refl tree) before after raising.is_heap made.changed.grows group raising.stands c t (with_raised p class text (globals_at s0 before c)) (made.changed.inside c (ap (λ i. s0.test i c) is_path ∙ t))
      ∙ ap (with_objects s) (objects_are p s class text)

  law : (c : List Bool) → s0.test (path_of group) c ≡ true → thrown_from p s1 thrown after c (state_at s1 after tree group c) ≡ raised_from p before class message (state_at s0 before tree group c)
  law c t =
      let s = state_at s0 before tree group c in
      let text = message_of before message in
      let later : s1.test (path_of group) c ≡ true = e01.test (path_of group) c known ∙ t in
      let named = ap (object_named s1 after c) (slot_there c later) ∙ made.name c (ap (λ i. s0.test i c) is_path ∙ t) ∙ number_is p s class text in
      λ i. outcome_of (next_after_throw p (raised_state c t i) (named i))

  -- what came of throwing it
  pub raised-attempts : {s2 : Sets I} (last : HeapView S I) (later : List (Option (Caller S I))) (outcomes : List (Outcome S I)) → AttemptsAt p (λ c s. thrown_from p s1 thrown after c s) s1 s2 after last tree later group outcomes → AttemptsAt p (λ _ s. raised_from p before class message s) s0 s2 before last tree later group outcomes
  raised-attempts {s2 = s2} last later outcomes a =
      let continues : Continues p s0 s1 after tree group group = record {
        stands = made_flight.stands;
        inside = λ c t. sym (e01.test (path_of group) c known) ∙ t;
        attempts = λ c t. attempts_at-extends e01 group (IsGroupIn-group s0 tree group raising.stands.is_group) c;
      } in
      record {
        is_heap = a.is_heap;
        is_for = a.is_for;
        grows = Grows-trans before after last made.changed.grows a.grows;
        keeps = a.keeps;
        came = CameTo-through p s0 s1 s2 last later group group (λ c. thrown_from p s1 thrown after c (state_at s1 after tree group c)) (λ c. raised_from p before class message (state_at s0 before tree group c)) (s0.test (path_of group)) outcomes continues (λ c. e01.test (path_of group) c known) law a.came;
        outside = λ c t. a.outside c (e01.test (path_of group) c known ∙ t) ∙ made.changed.outside c (ap (λ i. s0.test i c) is_path ∙ t);
      }
