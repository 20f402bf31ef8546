-- An attempt over a heap whose static fields and initialisation states changed.
use Rattle.std.proofs.Common.{◌≡◌, Bool, true, false, List, ◌&&◌, refl, ◌∙◌, ap}
use Rattle.std.specs.Prelude.{Option, slice_get}
use Rattle.vx_frame.specs.Frame.{PlainFrame, frame_at}
use Rattle.vx_group.specs.Callers.{callers_of, frames_at}
use Rattle.vx_group.specs.Group.{GroupView, IsGroup, path_of, stack_of}
use Rattle.vx_group.specs.declared.callers.Caller.{Caller}
use Rattle.vx_group.proofs.CallerLaws.{Keeps-refl}
use Rattle.vx_group.proofs.GroupLaws.{IsGroup-path_known}
use Rattle.vx_heap.specs.Heap.{Globals, HeapView, IsHeap, IsHeapFor, globals_at, is_held, is_object_held, name_at, value_of}
use Rattle.vx_heap.proofs.HeapLaws.{IsHeap-extends, globals_at-extends}
use Rattle.vx_java.specs.Machine.{Ref as RefValue, State, Text as TextValue}
use Rattle.vx_java.specs.Machine.{Outcome as PlainOutcome}
use Rattle.vx_link.specs.declared.program.Program.{Program}
use Rattle.vx_outcome.specs.declared.outcome.Outcome.{Outcome}
use Rattle.vx_space.specs.Sets.{Extends, Sets}
use Rattle.vx_group_states.specs.Sites.{GivesAt}
use Rattle.vx_group_states.specs.Stands.{Continues, Grows, StandsIn, callers_at, frame_held, plain_frame, state_at, state_of}
use Rattle.vx_group_states.specs.declared.site.Site.{Site}
use Rattle.vx_group_states.proofs.OutcomeStates.{CameTo-through}
use Rattle.vx_group_states.proofs.StateLaws.{Continues-same, StandsIn-extends, state_at-extends, all_same, map_same}
use Rattle.vx_value.specs.Texts.{text_at}
use Rattle.vx_value.specs.declared.slot.Slot.{Slot}
use Rattle.vx_value.specs.declared.slot.Slot.TheVariants.{Top, Int, Long, Null, Ref, Text}
use Rattle.vx_families.specs.Attempts.{AttemptsBy}
use Rattle.vx_ready.specs.Changing.{IsChanged, with_globals}
use Rattle.vx_ready.proofs.Changes.{IsHeapFor-changed}

module _ {S I : Type 0} {s0 s1 : Sets I} (before after : HeapView S I) (change : List Bool → Globals → Globals) (changed : IsChanged s0 s1 before after change) where
  -- ---- values

  pub value_same : (sets : Sets I) (c : List Bool) (slot : Slot) → value_of sets after c slot ≡ value_of sets before c slot
  value_same sets c Top = refl
  value_same sets c (Int n) = refl
  value_same sets c (Long n) = refl
  value_same sets c Null = refl
  value_same sets c (Ref i) = ap (λ (h : HeapView S I). RefValue (name_at sets h.objects c i)) changed.same
  value_same sets c (Text n) = ap (λ (h : HeapView S I). TextValue (text_at h.texts n)) changed.same

  pub held_same : (sets : Sets I) (c : List Bool) (slot : Slot) → is_held sets after c slot ≡ is_held sets before c slot
  held_same sets c Top = refl
  held_same sets c (Int n) = refl
  held_same sets c (Long n) = refl
  held_same sets c Null = refl
  held_same sets c (Ref i) = ap (λ (h : HeapView S I). is_object_held sets c (slice_get h.objects i)) changed.same
  held_same sets c (Text n) = ap (λ (h : HeapView S I). is_held sets h c (Text n)) changed.same

  frame_same : (sets : Sets I) (c : List Bool) (f : PlainFrame) → plain_frame sets after c f ≡ plain_frame sets before c f
  frame_same sets c f =
      let values = map_same (value_of sets after c) (value_of sets before c) (value_same sets c) in
      λ i. record { kind = f.kind; method = f.method; position = f.position; locals = values f.locals i; operands = values f.operands i }

  frame_held_same : (sets : Sets I) (c : List Bool) (f : PlainFrame) → frame_held sets after c f ≡ frame_held sets before c f
  frame_held_same sets c f =
      let held = all_same (is_held sets after c) (is_held sets before c) (held_same sets c) in
      λ i. held f.locals i && held f.operands i

  -- ---- states

  pub state_at-changed : (e : Extends s0 s1) (tree : List (Option (Caller S I))) (p : Program) (group : GroupView S I) → IsHeap s0 before → StandsIn p s0 before tree group → (c : List Bool) → state_at s1 after tree group c ≡ with_globals (state_at s0 before tree group c) (change c (globals_at s0 before c))
  state_at-changed e tree p group v s c =
      let earlier = state_at-extends tree e before v group s.is_group c in
      let top : plain_frame s1 after c (frame_at s1 group.top c) ≡ (state_at s0 before tree group c).top = frame_same s1 c (frame_at s1 group.top c) ∙ ap (λ (x : State). x.top) earlier in
      let callers : callers_at s1 after tree group c ≡ (state_at s0 before tree group c).callers = map_same (plain_frame s1 after c) (plain_frame s1 before c) (frame_same s1 c) (frames_at s1 (callers_of tree (Rattle.std.proofs.Common.length group.below) group.caller) c) ∙ ap (λ (x : State). x.callers) earlier in
      λ i. state_of (changed.at c i) (top i) (callers i)

  pub StandsIn-changed : (tree : List (Option (Caller S I))) (p : Program) (group : GroupView S I) → StandsIn p s1 before tree group → StandsIn p s1 after tree group
  StandsIn-changed tree p group s = record {
    is_group = s.is_group;
    runs = record { inside = λ c t. ap (λ (h : HeapView S I). s1.test h.allowed c) changed.same ∙ s.runs.inside c t };
    held = λ c t. all_same (frame_held s1 after c) (frame_held s1 before c) (frame_held_same s1 c) (frames_at s1 (stack_of tree group) c) ∙ s.held c t;
    shaped = s.shaped;
  }

  pub Grows-changed : Grows before after
  Grows-changed = record {
    allowed = ap (λ (h : HeapView S I). h.allowed) changed.same;
    objects = λ i o h. (o, ap (λ (x : HeapView S I). slice_get x.objects i) changed.same ∙ h, refl);
    texts = λ n text h. ap (λ (x : HeapView S I). slice_get x.texts n) changed.same ∙ h;
  }

  -- ---- the attempt: the heap changed inside the path, and then a call said what comes of the group over the later heap

  pub AttemptsBy-changed : {s2 : Sets I} (site : Site) (says : State → PlainOutcome) (group : GroupView S I) (there : HeapView S I → List Bool → State → PlainOutcome) (outcomes : List (Outcome S I)) → IsHeap s0 before → IsHeapFor site.program.now before → IsGroup s0 group → Extends s0 s1 → ((c : List Bool) → s0.test (path_of group) c ≡ false → (x : Globals) → change c x ≡ x) → Extends s1 s2 → ((tree : List (Option (Caller S I))) → StandsIn site.program.now s0 before tree group → (c : List Bool) → s0.test (path_of group) c ≡ true → there after c (with_globals (state_at s0 before tree group c) (change c (globals_at s0 before c))) ≡ says (state_at s0 before tree group c)) → GivesAt site.program.now there s1 s2 group outcomes after → AttemptsBy site says s0 s2 before after group outcomes
  AttemptsBy-changed {s2 = s2} site says group there outcomes v h w e outside f law gives =
      let p = site.program.now in
      record {
        is_for = IsHeapFor-changed p s0 s1 before after change h changed;
        attempts = λ tree s.
            let later = StandsIn-changed tree p group (StandsIn-extends p tree e before v group s) in
            let same = Continues-same p tree e before v group s in
            let continues : Continues p s0 s1 after tree group group = record { stands = later; inside = same.inside; attempts = same.attempts } in
            record {
              is_heap = IsHeap-extends f after changed.is_heap;
              grows = Grows-changed;
              keeps = Keeps-refl tree;
              came = CameTo-through p s0 s1 s2 after tree group group (λ c. there after c (state_at s1 after tree group c)) (λ c. says (state_at s0 before tree group c)) (s0.test (path_of group)) outcomes continues (λ c. e.test (path_of group) c (IsGroup-path_known s0 group w)) (λ c t. ap (there after c) (state_at-changed e tree p group v s c) ∙ law tree s c t) (gives tree changed.is_heap later);
              outside = λ c t. globals_at-extends f after changed.is_heap c ∙ changed.at c ∙ outside c t (globals_at s0 before c);
            };
      }
