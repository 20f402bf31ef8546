-- What is thrown on its way down the frames of a group: what comes of it stays what it was, and the outcomes so far are those of what was taken.
use Rattle.std.proofs.Common.{◌≡◌, ℕ, Bool, true, false, List, [], ◌++◌, Option, Some, None, refl, sym, ◌∙◌, ap}
use Rattle.std.specs.Prelude.{◌&&◌, ◌||◌, is_none, is_some, not}
use Rattle.vx_space.specs.Sets.{Sets, Extends}
use Rattle.vx_space.proofs.Spaces.{Extends-refl, Extends-trans}
use Rattle.vx_cond.specs.Slots.{slot_at}
use Rattle.vx_frame.specs.Frame.{part_of}
use Rattle.vx_frames.specs.Giving.{AttemptsAt}
use Rattle.vx_group.proofs.CallerLaws.{Keeps-refl}
use Rattle.vx_group.specs.declared.callers.Caller.{Caller}
use Rattle.vx_group.specs.Group.{GroupView, path_of}
use Rattle.vx_group_states.proofs.Gathering.{part_path}
use Rattle.vx_group_states.proofs.GrownStates.{CameTo-grown, Grows-refl, Grows-trans}
use Rattle.vx_group_states.proofs.OutcomeStates.{CameTo-append, CameTo-extends, CameTo-none, CameTo-same, CameTo-through, object_named-extends}
use Rattle.vx_group_states.proofs.StateLaws.{Continues-part, Continues-same, Continues-trans, both_first, both_second, state_at-part}
use Rattle.vx_group_states.specs.Stands.{CameTo, Continues, Grows, IsThrown, is_object, object_named, state_at}
use Rattle.vx_heap.proofs.HeapLaws.{IsHeap-extends, globals_at-extends, is_held-extends}
use Rattle.vx_heap.specs.Heap.{HeapView, IsHeap, globals_at, is_held}
use Rattle.vx_java.specs.Machine.{State}
use Rattle.vx_java.specs.Machine.{Outcome as PlainOutcome}
use Rattle.vx_java.specs.Throwing.{handler_of, next_after_throw}
use Rattle.vx_link.specs.declared.program.Program.{Program}
use Rattle.vx_outcome.specs.declared.outcome.Outcome.{Outcome}
use Rattle.vx_standing.specs.Attempted.{outcome_of}
use Rattle.vx_throw.proofs.FailLaws.{path_known}
use Rattle.vx_throw.proofs.ThrowLaws.{handler_there, taken_here}
use Rattle.vx_throw.proofs.Within.{CameTo-within}
use Rattle.vx_throw.specs.Flights.{IsFlight, IsHandled, IsPassed, NoneTakes, handler_in, landing, thrown_at, thrown_from, thrown_here}
use Rattle.vx_throw.specs.declared.handling.Flight.{Flight}

-- ---- what the loop keeps

-- over a heap that grows and one tree, where this is to come of throwing
pub record IsFalling {S I : Type 0} (p : Program) (start sets : Sets I) (first heap : HeapView S I) (tree : List (Option (Caller S I))) (group : GroupView S I) (what : List Bool → PlainOutcome) (flight : Flight S I) (outcomes : List (Outcome S I)) : Type 0 where
  pub extends : Extends start sets
  pub is_flight : IsFlight p sets heap tree flight
  pub grows : Grows first heap
  pub continues : Continues p start sets heap tree group flight.group
  pub came : CameTo p start sets heap tree group what (λ c. start.test (path_of group) c && not (sets.test (path_of flight.group) c)) outcomes
  pub still : (c : List Bool) → sets.test (path_of flight.group) c ≡ true → thrown_here p sets heap tree flight c ≡ what c
  pub outside : (c : List Bool) → start.test (path_of group) c ≡ false → globals_at sets heap c ≡ globals_at start first c

none_at_first : (b : Bool) → (b && not b) ≡ false
none_at_first true = refl
none_at_first false = refl

-- all of it is on its way
pub IsFalling-start : {S I : Type 0} (p : Program) (sets : Sets I) (heap : HeapView S I) (tree : List (Option (Caller S I))) (flight : Flight S I) → IsFlight p sets heap tree flight → IsFalling p sets sets heap heap tree flight.group (thrown_here p sets heap tree flight) flight []
IsFalling-start p sets heap tree flight f = record {
  extends = Extends-refl sets;
  is_flight = f;
  grows = Grows-refl heap;
  continues = Continues-same p tree (Extends-refl sets) heap f.is_heap flight.group f.stands;
  came = CameTo-none p sets sets heap tree flight.group _ (λ c. sets.test (path_of flight.group) c && not (sets.test (path_of flight.group) c)) (λ c. none_at_first (sets.test (path_of flight.group) c));
  still = λ c t. refl;
  outside = λ c t. refl;
}

-- ---- a frame's handlers

-- the set of what was taken so far, and of what a handler takes now
taken_more : (whole flying : Bool) (o : Option ℕ) → (flying ≡ true → whole ≡ true) → ((whole && not flying) || (flying && is_some o)) ≡ (whole && not (flying && is_none o))
taken_more true true (Some h) f = refl
taken_more true true None f = refl
taken_more true false o f = refl
taken_more false true o f = cc (f refl)
taken_more false false o f = refl

taken_apart : (whole flying : Bool) (o : Option ℕ) → (whole && not flying) ≡ true → (flying && is_some o) ≡ false
taken_apart whole false o h = refl
taken_apart true true o h = cc
taken_apart false true o h = cc

-- what a handler takes comes to what throwing comes to
landed_is : (p : Program) (s : State) (r : ℕ) (o : Option ℕ) → o ≡ handler_of p s s.top.kind r → is_some o ≡ true → landing s r o ≡ outcome_of (next_after_throw p s r)
landed_is p s r None e h = cc
landed_is p s r (Some handler) e h = ap outcome_of (sym (taken_here p s r handler (sym e)))

-- the handler at a configuration of a flight
handler_is : {S I : Type 0} (p : Program) (sets : Sets I) (heap : HeapView S I) (tree : List (Option (Caller S I))) (flight : Flight S I) → IsFlight p sets heap tree flight → (c : List Bool) → sets.test (path_of flight.group) c ≡ true → handler_in p sets heap flight c ≡ handler_of p (state_at sets heap tree flight.group c) flight.group.top.kind (thrown_at sets heap flight.objects c)
handler_is p sets heap tree flight f c t = handler_there p sets heap c (state_at sets heap tree flight.group c) (part_of flight.group.top) (slot_at sets flight.objects c) refl refl refl (f.thrown.object c t) (f.thrown.held c t)

-- what is left is thrown still, and the slots name the same objects
left_object : {S I : Type 0} (p : Program) {s1 s2 : Sets I} (heap : HeapView S I) (flight left : Flight S I) (landed : List (Outcome S I)) → IsHeap s1 heap → Extends s1 s2 → IsHandled p s1 s2 heap flight left landed → (c : List Bool) → s2.test (path_of left.group) c ≡ true → thrown_at s2 heap left.objects c ≡ thrown_at s1 heap flight.objects c
left_object p {s1 = s1} {s2 = s2} heap flight left landed v1 e h c t = ap (object_named s2 heap c) (h.objects.at c t) ∙ object_named-extends e heap v1 c (slot_at s1 flight.objects c)

left_thrown : {S I : Type 0} (p : Program) {s1 s2 : Sets I} (heap : HeapView S I) (flight left : Flight S I) (landed : List (Outcome S I)) → IsHeap s1 heap → IsThrown s1 heap flight.group flight.objects → Extends s1 s2 → IsHandled p s1 s2 heap flight left landed → IsThrown s2 heap left.group left.objects
left_thrown p {s1 = s1} {s2 = s2} heap flight left landed v1 f e h =
    let passing : List Bool → Bool = λ c. s1.test (path_of flight.group) c && is_none (handler_in p s1 heap flight c) in
    let path : (c : List Bool) → s2.test (path_of left.group) c ≡ passing c = part_path s1 s2 passing flight.group left.group h.left in
    let was : (c : List Bool) → s2.test (path_of left.group) c ≡ true → s1.test (path_of flight.group) c ≡ true = λ c t. both_first (s1.test (path_of flight.group) c) (is_none (handler_in p s1 heap flight c)) (sym (path c) ∙ t) in
    record {
      is_cond = h.objects.is_cond;
      scope = h.objects.scope;
      object = λ c t. ap is_object (h.objects.at c t) ∙ f.object c (was c t);
      held = λ c t. ap (is_held s2 heap c) (h.objects.at c t) ∙ is_held-extends e heap v1 c (slot_at s1 flight.objects c) ∙ f.held c (was c t);
    }

-- the frame on top took what it takes: what is left falls on
pub IsFalling-handled : {S I : Type 0} (p : Program) {s0 s1 s2 : Sets I} (first heap : HeapView S I) (tree : List (Option (Caller S I))) (group : GroupView S I) (what : List Bool → PlainOutcome) (flight left : Flight S I) (outcomes landed : List (Outcome S I)) → IsFalling p s0 s1 first heap tree group what flight outcomes → Extends s1 s2 → IsHandled p s1 s2 heap flight left landed → IsFalling p s0 s2 first heap tree group what left (outcomes ++ landed)
IsFalling-handled p {s0 = s0} {s1 = s1} {s2 = s2} first heap tree group what flight left outcomes landed f e h =
    let v1 = f.is_flight.is_heap in
    let flying : List Bool → Bool = λ c. s1.test (path_of flight.group) c in
    let o : List Bool → Option ℕ = λ c. handler_in p s1 heap flight c in
    let path : (c : List Bool) → s2.test (path_of left.group) c ≡ (flying c && is_none (o c)) = part_path s1 s2 (λ c. flying c && is_none (o c)) flight.group left.group h.left in
    let on = Continues-part p tree e heap v1 (λ c. flying c && is_none (o c)) flight.group left.group (λ c t. both_first (flying c) (is_none (o c)) t) f.continues.stands h.left in
    let here = CameTo-within p s0 s1 s2 heap tree group flight.group (λ c. landing (state_at s1 heap tree flight.group c) (thrown_at s1 heap flight.objects c) (o c)) what (λ c. flying c && is_some (o c)) landed f.continues (λ c t. landed_is p (state_at s1 heap tree flight.group c) (thrown_at s1 heap flight.objects c) (o c) (handler_is p s1 heap tree flight f.is_flight c (both_first (flying c) (is_some (o c)) t)) (both_second (flying c) (is_some (o c)) t) ∙ f.still c (both_first (flying c) (is_some (o c)) t)) (h.landed tree v1 f.continues.stands) in
    let before = CameTo-extends p s0 tree e heap v1 group what (λ c. s0.test (path_of group) c && not (flying c)) outcomes f.came in
    record {
      extends = Extends-trans f.extends e;
      is_flight = record {
        bounded = f.is_flight.bounded;
        is_heap = IsHeap-extends e heap v1;
        is_for = f.is_flight.is_for;
        stands = on.stands;
        thrown = left_thrown p heap flight left landed v1 f.is_flight.thrown e h;
      };
      grows = f.grows;
      continues = Continues-trans p s0 s1 s2 heap heap tree tree group flight.group left.group f.continues on;
      came = CameTo-same p s0 s2 heap tree group what what (λ c. (s0.test (path_of group) c && not (flying c)) || (flying c && is_some (o c))) (λ c. s0.test (path_of group) c && not (s2.test (path_of left.group) c)) (outcomes ++ landed) (λ c. taken_more (s0.test (path_of group) c) (flying c) (o c) (f.continues.inside c) ∙ ap (λ b. s0.test (path_of group) c && not b) (sym (path c))) (λ c t. refl) (CameTo-append p s0 s2 heap tree group what (λ c. s0.test (path_of group) c && not (flying c)) (λ c. flying c && is_some (o c)) outcomes landed (λ c t. taken_apart (s0.test (path_of group) c) (flying c) (o c) t) before here);
      still = λ c t.
          let was = both_first (flying c) (is_none (o c)) (sym (path c) ∙ t) in
          (λ i. outcome_of (next_after_throw p (state_at-part p tree e heap v1 (λ c. flying c && is_none (o c)) flight.group left.group f.continues.stands h.left c (sym (path c) ∙ t) i) (left_object p heap flight left landed v1 e h c t i))) ∙ f.still c was;
      outside = λ c t. globals_at-extends e heap v1 c ∙ f.outside c t;
    }

nothing_there : (o : Option ℕ) → is_none o ≡ true → o ≡ None
nothing_there None h = refl
nothing_there (Some n) h = cc h

-- it doesn't take what is left
pub none_takes : {S I : Type 0} (p : Program) {s1 s2 : Sets I} (heap : HeapView S I) (tree : List (Option (Caller S I))) (flight left : Flight S I) (landed : List (Outcome S I)) → IsFlight p s1 heap tree flight → Extends s1 s2 → IsHandled p s1 s2 heap flight left landed → left.group.top.kind ≡ flight.group.top.kind → NoneTakes p s2 heap tree left
none_takes p {s1 = s1} {s2 = s2} heap tree flight left landed f e h kind c t =
    let passing : List Bool → Bool = λ c. s1.test (path_of flight.group) c && is_none (handler_in p s1 heap flight c) in
    let path : s2.test (path_of left.group) c ≡ passing c = part_path s1 s2 passing flight.group left.group h.left c in
    let flying = both_first (s1.test (path_of flight.group) c) (is_none (handler_in p s1 heap flight c)) (sym path ∙ t) in
    let state = state_at-part p tree e heap f.is_heap passing flight.group left.group f.stands h.left c (sym path ∙ t) in
    let object = left_object p heap flight left landed f.is_heap e h c t in
    (λ i. handler_of p (state i) (kind i) (object i)) ∙ sym (handler_is p s1 heap tree flight f c flying) ∙ nothing_there (handler_in p s1 heap flight c) (both_second (s1.test (path_of flight.group) c) (is_none (handler_in p s1 heap flight c)) (sym path ∙ t))

-- ---- a frame that is passed

off_there : (whole flying : Bool) → (flying ≡ true → whole ≡ true) → whole ≡ false → flying ≡ false
off_there whole true h f = cc (h refl, f)
off_there whole false h f = refl

not_there : (whole flying : Bool) → (whole && not flying) ≡ true → flying ≡ false
not_there whole false h = refl
not_there true true h = cc h
not_there false true h = cc h

-- it falls into the caller's frame, over the heap that has changed where it flies
pub IsFalling-passed : {S I : Type 0} (p : Program) {s0 s1 s2 : Sets I} (first heap after : HeapView S I) (tree : List (Option (Caller S I))) (group : GroupView S I) (what : List Bool → PlainOutcome) (flight next : Flight S I) (outcomes : List (Outcome S I)) → IsFalling p s0 s1 first heap tree group what flight outcomes → NoneTakes p s1 heap tree flight → Extends s1 s2 → IsPassed p s1 s2 heap after tree flight next → IsFalling p s0 s2 first after tree group what next outcomes
IsFalling-passed p {s0 = s0} {s1 = s1} {s2 = s2} first heap after tree group what flight next outcomes f none e q =
    let flying : List Bool → Bool = s1.test (path_of flight.group) in
    let so_far : List Bool → Bool = λ c. s0.test (path_of group) c && not (flying c) in
    let same : (c : List Bool) → s2.test (path_of next.group) c ≡ flying c = λ c. ap (λ i. s2.test i c) q.path ∙ e.test (path_of flight.group) c (path_known p s1 heap tree flight f.is_flight) in
    record {
      extends = Extends-trans f.extends e;
      is_flight = q.is_flight;
      grows = Grows-trans first heap after f.grows q.grows;
      continues = Continues-trans p s0 s1 s2 after heap tree tree group flight.group next.group f.continues q.continues;
      came = CameTo-same p s0 s2 after tree group what what so_far (λ c. s0.test (path_of group) c && not (s2.test (path_of next.group) c)) outcomes (λ c. ap (λ b. s0.test (path_of group) c && not b) (sym (same c))) (λ c t. refl) (CameTo-grown p e (Keeps-refl tree) heap after f.is_flight.is_heap q.grows s0 group what so_far outcomes (λ c t. q.outside c (not_there (s0.test (path_of group) c) (flying c) t)) f.came);
      still = λ c t. let was = sym (same c) ∙ t in q.comes none c was ∙ f.still c was;
      outside = λ c t. q.outside c (off_there (s0.test (path_of group) c) (flying c) (f.continues.inside c) t) ∙ f.outside c t;
    }

-- ---- the end

-- nothing is left
all_taken : (whole flying : Bool) → flying ≡ false → (whole && not flying) ≡ whole
all_taken true flying h = ap not h
all_taken false flying h = refl

-- what is said of the state that stands at a configuration
abbrev pub said_at : {S I : Type 0} → (List Bool → State → PlainOutcome) → Sets I → HeapView S I → List (Option (Caller S I)) → GroupView S I → List Bool → PlainOutcome
said_at says sets heap tree group c = says c (state_at sets heap tree group c)

module _ {S I : Type 0} (p : Program) (says : List Bool → State → PlainOutcome) {s0 s1 : Sets I} (first heap : HeapView S I) (tree : List (Option (Caller S I))) (group : GroupView S I) (flight : Flight S I) (outcomes : List (Outcome S I)) where
  pub IsFalling-done : IsFalling p s0 s1 first heap tree group (said_at says s0 first tree group) flight outcomes → ((c : List Bool) → s1.test (path_of flight.group) c ≡ false) → AttemptsAt p says s0 s1 first heap tree tree group outcomes
  IsFalling-done f h = record {
    is_heap = f.is_flight.is_heap;
    is_for = f.is_flight.is_for;
    grows = f.grows;
    keeps = Keeps-refl tree;
    came = CameTo-same p s0 s1 heap tree group (said_at says s0 first tree group) (said_at says s0 first tree group) (λ c. s0.test (path_of group) c && not (s1.test (path_of flight.group) c)) (s0.test (path_of group)) outcomes (λ c. all_taken (s0.test (path_of group) c) (s1.test (path_of flight.group) c) (h c)) (λ c t. refl) f.came;
    outside = f.outside;
  }

  -- what no frame took ends there
  pub IsFalling-ended : {s2 : Sets I} (after : HeapView S I) (ended : List (Outcome S I)) → IsFalling p s0 s1 first heap tree group (said_at says s0 first tree group) flight outcomes → Extends s1 s2 → AttemptsAt p (thrown_from p s1 flight.objects heap) s1 s2 heap after tree tree flight.group ended → AttemptsAt p says s0 s2 first after tree tree group (outcomes ++ ended)
  IsFalling-ended {s2 = s2} after ended f e a =
      let what : List Bool → PlainOutcome = said_at says s0 first tree group in
      let flying : List Bool → Bool = s1.test (path_of flight.group) in
      let so_far : List Bool → Bool = λ c. s0.test (path_of group) c && not (flying c) in
      let here = CameTo-through p s0 s1 s2 after tree group flight.group (thrown_here p s1 heap tree flight) what flying ended f.continues (λ c. refl) f.still a.came in
      let before = CameTo-grown p e (Keeps-refl tree) heap after f.is_flight.is_heap a.grows s0 group what so_far outcomes (λ c t. a.outside c (not_there (s0.test (path_of group) c) (flying c) t)) f.came in
      record {
        is_heap = a.is_heap;
        is_for = a.is_for;
        grows = Grows-trans first heap after f.grows a.grows;
        keeps = Keeps-refl tree;
        came = CameTo-same p s0 s2 after tree group what what (λ c. so_far c || flying c) (s0.test (path_of group)) (outcomes ++ ended) (λ c. with_ended (s0.test (path_of group) c) (flying c) (f.continues.inside c)) (λ c t. refl) (CameTo-append p s0 s2 after tree group what so_far flying outcomes ended (λ c t. not_there (s0.test (path_of group) c) (flying c) t) before here);
        outside = λ c t. a.outside c (off_there (s0.test (path_of group) c) (flying c) (f.continues.inside c) t) ∙ f.outside c t;
      }
    where
      with_ended : (whole flying : Bool) → (flying ≡ true → whole ≡ true) → ((whole && not flying) || flying) ≡ whole
      with_ended true true h = refl
      with_ended true false h = refl
      with_ended false true h = cc (h refl)
      with_ended false false h = refl
