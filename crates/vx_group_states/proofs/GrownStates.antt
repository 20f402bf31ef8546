-- What groups and outcomes stand for where the heap gets more objects and texts, the tree more callers and the space more sets.
use Rattle.std.proofs.Common.{◌≡◌, ℕ, ◌<◌, ◌≤◌, zero, suc, Bool, true, false, List, [], ◌∷◌, refl, sym, ◌∙◌, ap, arith, length, map}
use Rattle.std.proofs.lemmas.Bool.{lt-ltb, ltb-true}
use Rattle.std.proofs.lemmas.Option.{slice_get_within}
use Rattle.std.specs.Prelude.{Option, Some, None, if◌then◌else◌, slice_get, unwrap_or}
use Rattle.std.specs.List.{list_all}
use Rattle.vx_list.specs.Places.{item_or}
use Rattle.vx_value.specs.Slot.{slot_cmp}
use Rattle.vx_value.specs.Texts.{text_at}
use Rattle.vx_value.specs.declared.slot.Slot.{Slot}
use Rattle.vx_value.specs.declared.slot.Slot.TheVariants.{Top, Int, Long, Null, Ref, Text}
use Rattle.vx_space.specs.Sets.{Sets, Extends}
use Rattle.vx_cond.specs.Cond.{Conditional}
use Rattle.vx_cond.specs.Slots.{or_top, slot_at}
use Rattle.vx_cond.proofs.CondLaws.{IsCond-extends, cond_at-extends}
use Rattle.vx_frame.specs.Frame.{PlainFrame, frame_at, shape_of}
use Rattle.vx_frame.proofs.FrameLaws.{frame_at-extends}
use Rattle.vx_group.specs.declared.callers.Caller.{Caller}
use Rattle.vx_group.specs.Callers.{Keeps, callers_of, frames_at}
use Rattle.vx_group.specs.Group.{GroupView, path_of, stack_of}
use Rattle.vx_group.proofs.CallerLaws.{AreCallers-nodes, callers_of-kept, frames_at-later}
use Rattle.vx_group.proofs.GroupLaws.{IsGroupIn-callers, IsGroupIn-group, IsGroupIn-later, IsGroup-path_known, IsGroup-top, attempts_at-extends, group_at-later}
use Rattle.vx_heap.specs.declared.object.HeapObject.{HeapObject}
use Rattle.vx_heap.specs.Heap.{Globals, HeapView, IsHeap, are_held, count_if, globals_at, is_held, is_object_held, name_at, value_of}
pub use Rattle.vx_heap.proofs.Growing.{Grows-refl, Grows-trans, held_object, is_held-grown, KeepObjects, name_at-grown, text_there, value_of-grown}
use Rattle.vx_heap.proofs.HeapLaws.{is_held-extends, name_at-extends}
use Rattle.vx_heap.proofs.Written.{allowed_known}
use Rattle.vx_java.specs.Machine.{Value, Go, Raise, Throw, Begin, Native, Write}
use Rattle.vx_java.specs.Machine.{Outcome as PlainOutcome}
use Rattle.vx_java.specs.Machine.{Ref as RefValue, Text as TextValue}
use Rattle.vx_link.specs.declared.program.Program.{Program}
use Rattle.vx_outcome.specs.Outcome.{condition_of}
use Rattle.vx_outcome.specs.declared.outcome.Outcome.{Outcome}
use Rattle.vx_outcome.specs.declared.outcome.Outcome.TheVariants as shared
use Rattle.vx_group_states.specs.Stands.{AreOutcomes, CameTo, Continues, Grows, IsMessage, IsOutcome, IsThrown, StandsIn, comes_to, frame_held, is_shaped, message_of, object_named, outcome_at, plain_frame, state_at, state_of}
use Rattle.vx_group_states.proofs.OutcomeStates.{Divide-extends, condition_known}
use Rattle.vx_group_states.proofs.StateLaws.{both, both_first, both_second, top_held}

-- ---- frames

pub all_kept : {A : Type 0} (f g : A → Bool) → ((a : A) → f a ≡ true → g a ≡ true) → (xs : List A) → list_all f xs ≡ true → list_all g xs ≡ true
all_kept f g h [] k = refl
all_kept f g h (x ∷ xs) k = both (g x) (list_all g xs) (h x (both_first (f x) (list_all f xs) k)) (all_kept f g h xs (both_second (f x) (list_all f xs) k))

pub map_held : {A B : Type 0} (t : A → Bool) (f g : A → B) → ((a : A) → t a ≡ true → f a ≡ g a) → (xs : List A) → list_all t xs ≡ true → map f xs ≡ map g xs
map_held t f g h [] k = refl
map_held t f g h (x ∷ xs) k = λ i. h x (both_first (t x) (list_all t xs) k) i ∷ map_held t f g h xs (both_second (t x) (list_all t xs) k) i

pub frame_held-grown : {S I : Type 0} {old new : Sets I} → Extends old new → (before after : HeapView S I) → IsHeap old before → Grows before after → (c : List Bool) (f : PlainFrame) → frame_held old before c f ≡ true → frame_held new after c f ≡ true
frame_held-grown {old = old} {new = new} e before after v k c f h =
    let locals = are_held old before c f.locals in
    let operands = are_held old before c f.operands in
    both (are_held new after c f.locals) (are_held new after c f.operands)
    (all_kept (is_held old before c) (is_held new after c) (is_held-grown e before after v k c) f.locals (both_first locals operands h))
    (all_kept (is_held old before c) (is_held new after c) (is_held-grown e before after v k c) f.operands (both_second locals operands h))

pub plain_frame-grown : {S I : Type 0} {old new : Sets I} → Extends old new → (before after : HeapView S I) → IsHeap old before → Grows before after → (c : List Bool) (f : PlainFrame) → frame_held old before c f ≡ true → plain_frame new after c f ≡ plain_frame old before c f
plain_frame-grown {old = old} {new = new} e before after v k c f h =
    let locals = are_held old before c f.locals in
    let operands = are_held old before c f.operands in
    let first = map_held (is_held old before c) (value_of new after c) (value_of old before c) (value_of-grown e before after v k c) f.locals (both_first locals operands h) in
    let second = map_held (is_held old before c) (value_of new after c) (value_of old before c) (value_of-grown e before after v k c) f.operands (both_second locals operands h) in
    λ i. record { kind = f.kind; method = f.method; position = f.position; locals = first i; operands = second i }

-- ---- groups

module _ {S I : Type 0} (p : Program) {s0 s1 : Sets I} {t0 t1 : List (Option (Caller S I))} (e : Extends s0 s1) (k : Keeps t0 t1) (before after : HeapView S I) (v : IsHeap s0 before) (grows : Grows before after) where
  path_before : (group : GroupView S I) → StandsIn p s0 before t0 group → (c : List Bool) → s1.test (path_of group) c ≡ true → s0.test (path_of group) c ≡ true
  path_before group s c t = sym (e.test (path_of group) c (IsGroup-path_known s0 group (IsGroupIn-group s0 t0 group s.is_group))) ∙ t

  same_stack : (group : GroupView S I) → StandsIn p s0 before t0 group → stack_of t1 group ≡ stack_of t0 group
  same_stack group s =
      let callers = callers_of-kept k (length group.below) group.caller (AreCallers-nodes s0 t0 (path_of group) (length group.below) group.caller (IsGroupIn-callers s0 t0 group s.is_group)) in
      λ i. group.top ∷ callers i

  pub StandsIn-grown : (group : GroupView S I) → StandsIn p s0 before t0 group → StandsIn p s1 after t1 group
  StandsIn-grown group s = record {
    is_group = IsGroupIn-later e k group s.is_group;
    runs = record { inside = λ c t. ap (λ i. s1.test i c) grows.allowed ∙ e.test before.allowed c (allowed_known s0 before v) ∙ s.runs.inside c (path_before group s c t) };
    held = λ c t. ap (λ g. list_all (frame_held s1 after c) g.frames) (group_at-later e k group s.is_group c) ∙ all_kept (frame_held s0 before c) (frame_held s1 after c) (frame_held-grown e before after v grows c) (frames_at s0 (stack_of t0 group) c) (s.held c (path_before group s c t));
    shaped = ap (λ frames. list_all (is_shaped p) (map shape_of frames)) (same_stack group s) ∙ s.shaped;
  }

  -- the state over other objects, static fields and initialisation states
  pub state_at-changed : (group : GroupView S I) → StandsIn p s0 before t0 group → (c : List Bool) → s0.test (path_of group) c ≡ true → (g : Globals) → globals_at s1 after c ≡ g → state_at s1 after t1 group c ≡ record (state_at s0 before t0 group c) { heap = g.objects; statics = g.statics; inits = g.inits }
  state_at-changed group s c t g globals =
      let top = ap (plain_frame s1 after c) (frame_at-extends e group.top (IsGroup-top s0 group (IsGroupIn-group s0 t0 group s.is_group)) c) ∙ plain_frame-grown e before after v grows c (frame_at s0 group.top c) (top_held p s0 before t0 group s c t) in
      let frames = frames_at-later e k (path_of group) (length group.below) group.caller (IsGroupIn-callers s0 t0 group s.is_group) c in
      let callers = ap (map (plain_frame s1 after c)) frames ∙ map_held (frame_held s0 before c) (plain_frame s1 after c) (plain_frame s0 before c) (plain_frame-grown e before after v grows c) (frames_at s0 (callers_of t0 (length group.below) group.caller) c) (both_second (frame_held s0 before c (frame_at s0 group.top c)) _ (s.held c t)) in
      λ i. state_of (globals i) (top i) (callers i)

  -- where the plain heap stays
  pub state_at-grown : (group : GroupView S I) → StandsIn p s0 before t0 group → (c : List Bool) → s0.test (path_of group) c ≡ true → globals_at s1 after c ≡ globals_at s0 before c → state_at s1 after t1 group c ≡ state_at s0 before t0 group c
  state_at-grown group s c t globals = state_at-changed group s c t (globals_at s0 before c) globals

  -- ---- outcomes

  text_after : (n : ℕ) → n < length before.texts → slice_get after.texts n ≡ Some (text_at before.texts n)
  text_after n h = grows.texts n (text_at before.texts n) (text_there before.texts n h)

  pub text_known : (n : ℕ) → n < length before.texts → n < length after.texts
  text_known n h = slice_get_within after.texts n (text_at before.texts n) (text_after n h)

  text_same : (n : ℕ) → n < length before.texts → item_or after.texts n [] ≡ item_or before.texts n []
  text_same n h = ap (λ o. unwrap_or o []) (text_after n h)

  pub message_known : (message : Option ℕ) → IsMessage before message → IsMessage after message
  message_known None h = tt
  message_known (Some n) h = text_known n h

  message_same : (message : Option ℕ) → IsMessage before message → message_of after message ≡ message_of before message
  message_same None h = refl
  message_same (Some n) h = ap Some (text_same n h)

  Continues-grown : (start : Sets I) (group next : GroupView S I) → Continues p start s0 before t0 group next → Continues p start s1 after t1 group next
  Continues-grown start group next f = record {
    stands = StandsIn-grown next f.stands;
    inside = λ c t. f.inside c (path_before next f.stands c t);
    attempts = λ c t. attempts_at-extends e next (IsGroupIn-group s0 t0 next f.stands.is_group) c ∙ f.attempts c (path_before next f.stands c t);
  }

  slot_same : (thrown : Conditional Slot S I) (next : GroupView S I) → IsThrown s0 before next thrown → (c : List Bool) → slot_at s1 thrown c ≡ slot_at s0 thrown c
  slot_same thrown next h c = ap or_top (cond_at-extends slot_cmp e thrown h.is_cond c)

  pub thrown_held : (next : GroupView S I) (thrown : Conditional Slot S I) → StandsIn p s0 before t0 next → IsThrown s0 before next thrown → IsThrown s1 after next thrown
  thrown_held next thrown s h = record {
    is_cond = IsCond-extends slot_cmp e thrown h.is_cond;
    scope = h.scope;
    object = λ c t. rw (slot_same thrown next h c) (h.object c (path_before next s c t));
    held = λ c t. rw (slot_same thrown next h c) (is_held-grown e before after v grows c (slot_at s0 thrown c) (h.held c (path_before next s c t)));
  }

  pub IsOutcome-grown : (start : Sets I) (group : GroupView S I) (x : Outcome S I) → IsOutcome p start s0 before t0 group x → IsOutcome p start s1 after t1 group x
  IsOutcome-grown start group (shared.Go next) h = Continues-grown start group next h
  IsOutcome-grown start group (shared.Raise next class message) h = (Continues-grown start group next h.0, message_known message h.1)
  IsOutcome-grown start group (shared.Throw next thrown) h = (Continues-grown start group next h.0, thrown_held next thrown h.0.stands h.1)
  IsOutcome-grown start group (shared.Begin next class) h = Continues-grown start group next h
  IsOutcome-grown start group (shared.Native next method) h = Continues-grown start group next h
  IsOutcome-grown start group (shared.Write next stream text) h = (Continues-grown start group next h.0, text_known text h.1)
  IsOutcome-grown start group (shared.Ended condition end) h = e.known condition h

  AreOutcomes-grown : (start : Sets I) (group : GroupView S I) (xs : List (Outcome S I)) → AreOutcomes p start s0 before t0 group xs → AreOutcomes p start s1 after t1 group xs
  AreOutcomes-grown start group [] h = tt
  AreOutcomes-grown start group (x ∷ xs) h = (IsOutcome-grown start group x h.0, AreOutcomes-grown start group xs h.1)

  abbrev named : Value → ℕ
  named (RefValue n) = n
  named _ = 0

  object_same : (c : List Bool) (slot : Slot) → is_held s0 before c slot ≡ true → object_named s1 after c slot ≡ object_named s0 before c slot
  object_same c Top h = refl
  object_same c (Int n) h = refl
  object_same c (Long n) h = refl
  object_same c Null h = refl
  object_same c (Ref i) h = ap named (value_of-grown e before after v grows c (Ref i) h)
  object_same c (Text n) h = refl

  pub outcome_at-grown : (start : Sets I) (group : GroupView S I) (x : Outcome S I) → IsOutcome p start s0 before t0 group x → (c : List Bool) → s0.test (condition_of x) c ≡ true → globals_at s1 after c ≡ globals_at s0 before c → outcome_at s1 after t1 c x ≡ outcome_at s0 before t0 c x
  outcome_at-grown start group (shared.Go next) h c t globals = ap Go (state_at-grown next h.stands c t globals)
  outcome_at-grown start group (shared.Raise next class message) h c t globals = λ i. Raise class.0 (message_same message h.1 i) (state_at-grown next h.0.stands c t globals i)
  outcome_at-grown start group (shared.Throw next thrown) h c t globals =
      let object = ap (object_named s1 after c) (slot_same thrown next h.1 c) ∙ object_same c (slot_at s0 thrown c) (h.1.held c t) in
      λ i. Throw (object i) (state_at-grown next h.0.stands c t globals i)
  outcome_at-grown start group (shared.Begin next class) h c t globals = ap (Begin class.0) (state_at-grown next h.stands c t globals)
  outcome_at-grown start group (shared.Native next method) h c t globals = ap (Native method.0) (state_at-grown next h.stands c t globals)
  outcome_at-grown start group (shared.Write next stream text) h c t globals = λ i. Write stream (text_same text h.1 i) (state_at-grown next h.0.stands c t globals i)
  outcome_at-grown start group (shared.Ended condition end) h c t globals = refl

  comes_to-grown : (start : Sets I) (group : GroupView S I) (xs : List (Outcome S I)) → AreOutcomes p start s0 before t0 group xs → (c : List Bool) → globals_at s1 after c ≡ globals_at s0 before c → comes_to s1 after t1 c xs ≡ comes_to s0 before t0 c xs
  comes_to-grown start group [] h c globals = refl
  comes_to-grown start group (x ∷ xs) h c globals = chosen (s1.test (condition_of x) c) (s0.test (condition_of x) c) (e.test (condition_of x) c (condition_known p start s0 before t0 group x h.0)) (λ t. outcome_at-grown start group x h.0 c t globals) (comes_to-grown start group xs h.1 c globals)
    where
      chosen : {T : Type 0} (a b : Bool) → a ≡ b → {y z : T} {r s : Option T} → (b ≡ true → y ≡ z) → r ≡ s → (if a then Some y else r) ≡ (if b then Some z else s)
      chosen true true q f g = ap Some (f refl)
      chosen true false q f g = cc q
      chosen false true q f g = cc q
      chosen false false q f g = g

  -- outcomes in a set in which the plain heap stays
  pub CameTo-grown : (start : Sets I) (group : GroupView S I) (what : List Bool → PlainOutcome) (set : List Bool → Bool) (xs : List (Outcome S I)) → ((c : List Bool) → set c ≡ true → globals_at s1 after c ≡ globals_at s0 before c) → CameTo p start s0 before t0 group what set xs → CameTo p start s1 after t1 group what set xs
  CameTo-grown start group what set xs stays h = record {
    divide = Divide-extends p start t0 e before group set xs h.continue h.divide;
    continue = AreOutcomes-grown start group xs h.continue;
    at = λ c t. comes_to-grown start group xs h.continue c (stays c t) ∙ h.at c t;
  }
