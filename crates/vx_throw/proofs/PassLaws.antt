-- What is thrown has left the frame on top: it is thrown on in the caller, or the runs end.
use Rattle.std.proofs.Common.{◌≡◌, ℕ, suc, Bool, true, false, List, [], ◌∷◌, refl, sym, ◌∙◌, ap, arith, subst, length, map}
use Rattle.std.specs.Prelude.{Option, None}
use Rattle.vx_cond.specs.Cond.{Conditional}
use Rattle.vx_frame.specs.Frame.{frame_at}
use Rattle.vx_frames.proofs.UnwindLaws.{passes_frames}
use Rattle.vx_frames.specs.Entering.{with_frame}
use Rattle.vx_frames.specs.Giving.{AttemptsAt}
use Rattle.vx_frames.specs.Uncovering.{IsUncovered}
use Rattle.vx_group.proofs.CallerLaws.{Keeps-refl}
use Rattle.vx_group.proofs.GroupLaws.{IsGroupIn-group, attempts_at-extends}
use Rattle.vx_group.specs.declared.callers.Caller.{Caller}
use Rattle.vx_group.specs.Callers.{callers_of, frames_at}
use Rattle.vx_group.specs.Group.{GroupView, path_of}
use Rattle.vx_group_states.proofs.GrownStates.{Grows-refl, StandsIn-grown, state_at-changed}
use Rattle.vx_group_states.proofs.OutcomeStates.{CameTo-none, CameTo-through, IsThrown-extends}
use Rattle.vx_group_states.proofs.StateLaws.{Continues-trans}
use Rattle.vx_group_states.specs.Sites.{GivesAt}
use Rattle.vx_group_states.specs.Stands.{Continues, StandsIn, plain_frame, state_at}
use Rattle.vx_heap.proofs.HeapLaws.{IsHeap-extends, globals_at-extends}
use Rattle.vx_heap.specs.Heap.{HeapView, globals_at}
use Rattle.vx_java.specs.Machine.{Frame, State}
use Rattle.vx_java.specs.Throwing.{handler_of, next_after_throw, passed_object, passed_state, uncaught}
use Rattle.vx_link.specs.Parts.{method_at}
use Rattle.vx_link.specs.declared.program.Program.{Program}
use Rattle.vx_outcome.specs.declared.outcome.Outcome.{Outcome}
use Rattle.vx_space.specs.Sets.{Extends, IsLawful, Sets}
use Rattle.vx_standing.specs.Attempted.{outcome_of}
use Rattle.vx_value.specs.declared.key.KeyPart.{KeyPart}
use Rattle.vx_value.specs.declared.slot.Slot.{Slot}
use Rattle.vx_throw.proofs.FailLaws.{path_known}
use Rattle.vx_throw.proofs.LeaveLaws.{left_is_object, left_is_passed}
use Rattle.vx_throw.proofs.ThrowLaws.{ends_there}
use Rattle.vx_throw.proofs.Within.{thrown_later}
use Rattle.vx_throw.specs.Flights.{IsFlight, IsPassed, NoneTakes, thrown_at, thrown_from, uncaught_from}
use Rattle.vx_throw.specs.Leaving.{HasLeft, left_globals}
use Rattle.vx_throw.specs.declared.handling.Flight.{Flight}

-- no runs end
pub ended-none : {S I : Type 0} (p : Program) {sets : Sets I} → IsLawful sets → (heap : HeapView S I) (tree : List (Option (Caller S I))) (flight : Flight S I) (path : I) (outcomes : List (Outcome S I)) → path ≡ path_of flight.group → path ≡ sets.never → outcomes ≡ [] → IsFlight p sets heap tree flight → AttemptsAt p (thrown_from p sets flight.objects heap) sets sets heap heap tree tree flight.group outcomes
ended-none p {sets = sets} lawful heap tree flight path outcomes is_path never none f =
    let nowhere : (c : List Bool) → sets.test (path_of flight.group) c ≡ false = λ c. ap (λ i. sets.test i c) (sym is_path ∙ never) ∙ lawful.never_test c in
    rw none (record {
      is_heap = f.is_heap;
      is_for = f.is_for;
      grows = Grows-refl heap;
      keeps = Keeps-refl tree;
      came = CameTo-none p sets sets heap tree flight.group (λ c. thrown_from p sets flight.objects heap c (state_at sets heap tree flight.group c)) (sets.test (path_of flight.group)) nowhere;
      outside = λ c t. refl;
    })

-- a group of one frame has none below it
pub no_frame : (below : List KeyPart) → suc (length below) ≡ 1 → below ≡ []
no_frame [] e = refl
no_frame (part ∷ below) e = absurd (omega (arith, e))

module _ {S I : Type 0} (p : Program) {s0 s1 : Sets I} (e01 : Extends s0 s1) (before after : HeapView S I) (tree : List (Option (Caller S I))) (flight left : Flight S I) (f : IsFlight p s0 before tree flight) (l : HasLeft p s0 s1 before after flight left) where
  known : s0.is_known (path_of flight.group) ≡ true
  known = path_known p s0 before tree flight f

  -- the group stands over the later heap
  stands : StandsIn p s1 after tree flight.group
  stands = StandsIn-grown p e01 (Keeps-refl tree) before after f.is_heap l.changed.grows flight.group f.stands

  pub left_stands : StandsIn p s1 after tree left.group
  left_stands = let P : GroupView S I → Type 0 = StandsIn p s1 after tree in subst P (sym l.group) stands

  on : Continues p s0 s1 after tree flight.group flight.group
  on = record {
    stands = stands;
    inside = λ c t. sym (e01.test (path_of flight.group) c known) ∙ t;
    attempts = λ c t. attempts_at-extends e01 flight.group (IsGroupIn-group s0 tree flight.group f.stands.is_group) c;
  }

  -- the state there is the passed one, and what is thrown the passed object
  state_is : (c : List Bool) → s0.test (path_of flight.group) c ≡ true → state_at s1 after tree flight.group c ≡ passed_state p (state_at s0 before tree flight.group c) flight.group.top.kind (thrown_at s0 before flight.objects c)
  state_is c t =
      state_at-changed p e01 (Keeps-refl tree) before after f.is_heap l.changed.grows flight.group f.stands c t (left_globals p flight.group.top.kind (method_at p flight.group.top.method.0).class.0 (thrown_at s0 before flight.objects c) (globals_at s0 before c)) (l.changed.inside c t)
      ∙ left_is_passed p (state_at s0 before tree flight.group c) flight.group.top.kind (thrown_at s0 before flight.objects c)

  object_is : (c : List Bool) → s0.test (path_of flight.group) c ≡ true → thrown_at s1 after left.objects c ≡ passed_object p (state_at s0 before tree flight.group c) flight.group.top.kind (thrown_at s0 before flight.objects c)
  object_is c t = l.object c t ∙ left_is_object p (state_at s0 before tree flight.group c) flight.group.top.kind (thrown_at s0 before flight.objects c)

  -- ---- in the caller

  module _ {s2 : Sets I} (e12 : Extends s1 s2) (next : Flight S I) (u : IsUncovered s1 s2 tree left.group left.group.top next.group) (q : next.objects ≡ left.objects) where
    uncovered : IsUncovered s1 s2 tree flight.group flight.group.top next.group
    uncovered = let P : GroupView S I → Type 0 = λ g. IsUncovered s1 s2 tree g g.top next.group in subst P l.group u

    below : Continues p s1 s2 after tree flight.group next.group
    below = uncovered.continues p after l.changed.is_heap stands

    path : path_of next.group ≡ path_of flight.group
    path = ap (λ (cond : Conditional ℕ S I). cond.scope) uncovered.attempts

    is_flight : IsFlight p s2 after tree next
    is_flight =
        let later = IsThrown-extends e12 after l.changed.is_heap left.group left.objects (ap (λ (g : GroupView S I). s1.is_known (path_of g)) l.group ∙ e01.known (path_of flight.group) known) l.thrown in
        let same : path_of next.group ≡ path_of left.group = path ∙ ap (λ (g : GroupView S I). path_of g) (sym l.group) in
        let within : (c : List Bool) → s2.test (path_of next.group) c ≡ true → s2.test (path_of left.group) c ≡ true = λ c t. ap (λ i. s2.test i c) (sym same) ∙ t in
        record {
          bounded = f.bounded;
          is_heap = IsHeap-extends e12 after l.changed.is_heap;
          is_for = l.changed.keeps p f.is_for;
          stands = below.stands;
          thrown = record {
            is_cond = rw q later.is_cond;
            scope = ap (λ (objects : Conditional Slot S I). objects.scope) q ∙ later.scope ∙ sym same;
            object = λ c t. rw q (later.object c (within c t));
            held = λ c t. rw q (later.held c (within c t));
          };
        }

    comes : (c : List Bool) → s0.test (path_of flight.group) c ≡ true → handler_of p (state_at s0 before tree flight.group c) flight.group.top.kind (thrown_at s0 before flight.objects c) ≡ None → next_after_throw p (state_at s2 after tree next.group c) (thrown_at s2 after next.objects c) ≡ next_after_throw p (state_at s0 before tree flight.group c) (thrown_at s0 before flight.objects c)
    comes c t none =
        let state = state_at s0 before tree flight.group c in
        let object = thrown_at s0 before flight.objects c in
        let frame : Frame = plain_frame s1 after c (frame_at s1 flight.group.top c) in
        let there : State = state_at s2 after tree next.group c in
        let thrown = ap (λ objects. thrown_at s2 after objects c) q ∙ thrown_later e12 after l.changed.is_heap left.objects l.thrown.is_cond c ∙ object_is c t in
        let over : passed_state p state flight.group.top.kind object ≡ with_frame there frame = sym (state_is c t) ∙ uncovered.at after l.changed.is_heap c (e01.test (path_of flight.group) c known ∙ t) in
        ap (next_after_throw p there) thrown ∙ sym (passes_frames p state there frame object over none)

    pub IsPassed-left : IsPassed p s0 s2 before after tree flight next
    IsPassed-left = record {
      is_flight = is_flight;
      grows = l.changed.grows;
      continues = Continues-trans p s0 s1 s2 after after tree tree flight.group flight.group next.group on below;
      path = path;
      depth = uncovered.depth;
      comes = λ none c t. ap outcome_of (comes c t (none c t));
      outside = λ c t. globals_at-extends e12 after l.changed.is_heap c ∙ l.changed.outside c t;
    }

  -- ---- where no frame is left

  alone : (group : GroupView S I) → group.below ≡ [] → (c : List Bool) → (state_at s0 before tree group c).callers ≡ []
  alone group none c = ap (λ (below : List KeyPart). map (plain_frame s0 before c) (frames_at s0 (callers_of tree (length below) group.caller) c)) none

  pub ended-left : {s2 : Sets I} (ended : List (Outcome S I)) → Extends s1 s2 → flight.group.below ≡ [] → NoneTakes p s0 before tree flight → GivesAt p (uncaught_from p s1 left.objects) s1 s2 left.group ended after → AttemptsAt p (thrown_from p s0 flight.objects before) s0 s2 before after tree tree flight.group ended
  ended-left {s2 = s2} ended e12 last none gives =
      let P : GroupView S I → Type 0 = λ g. GivesAt p (uncaught_from p s1 left.objects) s1 s2 g ended after in
      let there : GivesAt p (uncaught_from p s1 left.objects) s1 s2 flight.group ended after = subst P l.group gives in
      record {
        is_heap = IsHeap-extends e12 after l.changed.is_heap;
        is_for = l.changed.keeps p f.is_for;
        grows = l.changed.grows;
        keeps = Keeps-refl tree;
        came = CameTo-through p s0 s1 s2 after tree flight.group flight.group (λ c. uncaught_from p s1 left.objects after c (state_at s1 after tree flight.group c)) (λ c. thrown_from p s0 flight.objects before c (state_at s0 before tree flight.group c)) (s0.test (path_of flight.group)) ended on (λ c. e01.test (path_of flight.group) c known)
            (λ c t. ap outcome_of ((λ i. uncaught p (state_is c t i) (object_is c t i)) ∙ sym (ends_there p (state_at s0 before tree flight.group c) (thrown_at s0 before flight.objects c) (alone flight.group last c) (none c t))))
            (there tree l.changed.is_heap stands);
        outside = λ c t. globals_at-extends e12 after l.changed.is_heap c ∙ l.changed.outside c t;
      }
