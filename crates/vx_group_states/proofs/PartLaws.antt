-- What the parts of a group come to, by the kind of the answer.
use Rattle.std.proofs.Common.{◌≡◌, ℕ, Bool, true, List, [], ◌∷◌, ◌++◌, refl, sym, ◌∙◌, ap, subst, drop}
use Rattle.std.specs.Prelude.{Option, ◌+◌, ◌<◌, length, map}
use Rattle.vx_value.specs.declared.slot.Slot.{Slot}
use Rattle.vx_value.specs.declared.ids.ClassId.{ClassId}
use Rattle.vx_value.specs.Slot.{slot_cmp}
use Rattle.vx_space.specs.Sets.{Sets, Extends}
use Rattle.vx_space.proofs.Spaces.{Extends-refl}
use Rattle.vx_cond.specs.Cond.{Conditional, IsCond}
use Rattle.vx_cond.specs.Row.{IsRow}
use Rattle.vx_cond.specs.Slots.{slot_at}
use Rattle.vx_frame.specs.Frame.{frame_at}
use Rattle.vx_frame.proofs.FrameLaws.{frame_at-extends}
use Rattle.vx_group.specs.declared.callers.Caller.{Caller}
use Rattle.vx_group.specs.Group.{GroupView, path_of}
use Rattle.vx_group.proofs.GroupLaws.{IsGroupIn-group, IsGroup-path_known, IsGroup-top}
use Rattle.vx_heap.specs.Heap.{HeapView, IsHeap, is_held, value_of}
use Rattle.vx_heap.proofs.HeapLaws.{IsHeap-extends, is_held-extends}
use Rattle.vx_java.specs.Machine.{Here, State, Value, at_position}
use Rattle.vx_java.specs.Machine.{Outcome as PlainOutcome, Ended, Go, Raise, Throw, Write}
use Rattle.vx_link.specs.declared.program.Program.{Program}
use Rattle.vx_outcome.specs.declared.outcome.Outcome.{Outcome}
use Rattle.vx_outcome.specs.declared.outcome.Outcome.TheVariants as shared
use Rattle.vx_group_states.specs.Answering.{AreObjectsHeld, AreSlotsHeld, answer_at, operands_at, put_on, slot_by, thrown_by, written}
use Rattle.vx_group_states.specs.Sites.{Gives, GivesAt, here}
use Rattle.vx_group_states.specs.Stands.{CameTo, Continues, IsMessage, IsThrown, StandsIn, is_object, message_of, object_named, state_at}
use Rattle.vx_group_states.specs.declared.answer.Answer.{Answer}
use Rattle.vx_group_states.specs.declared.site.Site.{Site}
use Rattle.vx_group_states.proofs.AnswerLaws.{all_drop, map_drop}
use Rattle.vx_group_states.proofs.OutcomeStates.{CameTo-one, CameTo-through, object_named-extends}
use Rattle.vx_group_states.proofs.StateLaws.{Continues-moved, Continues-same, both, operands_held, state_at-extends, state_at-moved}
use Rattle.vx_value.specs.Texts.{text_at}
use Rattle.vx_value.specs.declared.end.End.{End}
use Rattle.vx_value.specs.declared.end.Stream.{Stream}

-- a slot is put on the operands that are left, and a call says what comes of them
pub pushed-gives : {S I : Type 0} (then : Here → List Value → PlainOutcome) (site : Site) → ((s : State) (operands : List Value) → then (here site (at_position s s.top.position operands)) operands ≡ then (here site s) operands) → {s0 s1 : Sets I} (s2 : Sets I) (group after : GroupView S I) (taken : ℕ) (answers : Conditional Answer S I) (values : Conditional Slot S I) (outcomes : List (Outcome S I)) → Extends s0 s1 → after ≡ record group { top = record (group.top) { stack = after.top.stack } } → IsRow slot_cmp s1 after.top.stack → after.top.stack.scope ≡ path_of group → ((c : List Bool) → operands_at s1 after.top.stack c ≡ slot_at s1 values c ∷ drop taken (operands_at s1 group.top.stack c)) → ((c : List Bool) → s0.test (path_of group) c ≡ true → slot_at s1 values c ≡ slot_by (answer_at s0 answers c)) → Gives site.program.now (λ s. then (here site s) s.top.operands) s1 s2 after outcomes → (heap : HeapView S I) → AreSlotsHeld s0 heap (path_of group) answers → GivesAt site.program.now (put_on then site taken s0 answers) s0 s2 group outcomes heap
pushed-gives {S = S} {I = I} then site stays {s0 = s0} {s1 = s1} s2 group after taken answers values outcomes e same row scope at value gives heap held tree h s =
    let p = site.program.now in
    let alone = IsGroupIn-group s0 tree group s.is_group in
    let stack = after.top.stack in
    let position = group.top.position in
    let moved : GroupView S I = record group { top = record (group.top) { position = position; stack = stack } } in
    let G : GroupView S I → Type 0 = λ g. Gives p (λ s. then (here site s) s.top.operands) s1 s2 g outcomes in
    let operands : List Bool → List Slot = λ c. slot_by (answer_at s0 answers c) ∷ drop taken (frame_at s0 group.top c).operands in
    let at_moved : (c : List Bool) → s0.test (path_of group) c ≡ true → operands_at s1 stack c ≡ operands c = λ c t. at c ∙ (λ i. value c t i ∷ drop taken ((frame_at-extends e group.top (IsGroup-top s0 group alone) c i).operands)) in
    let continues = Continues-moved p tree e heap h group stack position operands s row scope at_moved (λ c t. both _ _ (held.held c t) (all_drop (is_held s0 heap c) taken (frame_at s0 group.top c).operands (operands_held p s0 heap tree group s c t))) in
    CameTo-through p s0 s1 s2 heap tree group moved (λ c. then (here site (state_at s1 heap tree moved c)) (state_at s1 heap tree moved c).top.operands) (λ c. put_on then site taken s0 answers heap c (state_at s0 heap tree group c)) (s0.test (path_of group)) outcomes continues (λ c. e.test (path_of group) c (IsGroup-path_known s0 group alone)) (λ c t.
    let state = state_at s0 heap tree group c in
    let top : Value = value_of s0 heap c (slot_by (answer_at s0 answers c)) in
    ap (λ (r : State). then (here site r) r.top.operands) (state_at-moved p tree e heap h group stack position s c (operands c) (at_moved c t)) ∙ ap (λ rest. then (here site (at_position state position (top ∷ rest))) (top ∷ rest)) (map_drop (value_of s0 heap c) taken (frame_at s0 group.top c).operands) ∙ stays state (top ∷ drop taken state.top.operands)) (subst G same gives heap tree (IsHeap-extends e heap h) continues.stands)

-- a group at a position, with so many operands taken off, goes on from the group
module _ {S I : Type 0} (p : Program) (sets : Sets I) (group after : GroupView S I) (taken position : ℕ) (same : after ≡ record group { top = record (group.top) { position = position; stack = after.top.stack } }) (row : IsRow slot_cmp sets after.top.stack) (scope : after.top.stack.scope ≡ path_of group) (at : (c : List Bool) → operands_at sets after.top.stack c ≡ drop taken (operands_at sets group.top.stack c)) (heap : HeapView S I) (tree : List (Option (Caller S I))) (h : IsHeap sets heap) (s : StandsIn p sets heap tree group) where
  abbrev taken_off : List Bool → List Slot
  taken_off c = drop taken (frame_at sets group.top c).operands

  moved_continues : Continues p sets sets heap tree group after
  moved_continues =
      let P : GroupView S I → Type 0 = λ g. Continues p sets sets heap tree group g in
      subst P (sym same) (Continues-moved p tree (Extends-refl sets) heap h group after.top.stack position taken_off s row scope (λ c t. at c) (λ c t. all_drop (is_held sets heap c) taken (frame_at sets group.top c).operands (operands_held p sets heap tree group s c t)))

  moved_path : path_of after ≡ path_of group
  moved_path = ap (λ (g : GroupView S I). path_of g) same

  moved_state : (c : List Bool) → state_at sets heap tree after c ≡ at_position (state_at sets heap tree group c) position (drop taken (state_at sets heap tree group c).top.operands)
  moved_state c =
      let P : GroupView S I → Type 0 = λ g. state_at sets heap tree g c ≡ at_position (state_at sets heap tree group c) position (map (value_of sets heap c) (taken_off c)) in
      subst P (sym same) (state_at-moved p tree (Extends-refl sets) heap h group after.top.stack position s c (taken_off c) (at c))
      ∙ ap (λ rest. at_position (state_at sets heap tree group c) position rest) (map_drop (value_of sets heap c) taken (frame_at sets group.top c).operands)

pub jumped-gives : {S I : Type 0} (p : Program) (sets : Sets I) (group after : GroupView S I) (taken position : ℕ) (outcomes : List (Outcome S I)) → after ≡ record group { top = record (group.top) { position = position; stack = after.top.stack } } → IsRow slot_cmp sets after.top.stack → after.top.stack.scope ≡ path_of group → ((c : List Bool) → operands_at sets after.top.stack c ≡ drop taken (operands_at sets group.top.stack c)) → outcomes ≡ shared.Go after ∷ [] → Gives p (λ s. Go (at_position s position (drop taken s.top.operands))) sets sets group outcomes
jumped-gives {S = S} {I = I} p sets group after taken position outcomes same row scope at made heap tree h s =
    let what : List Bool → PlainOutcome = λ c. Go (at_position (state_at sets heap tree group c) position (drop taken (state_at sets heap tree group c).top.operands)) in
    let P : List (Outcome S I) → Type 0 = λ xs. CameTo p sets sets heap tree group what (sets.test (path_of group)) xs in
    let continues = moved_continues p sets group after taken position same row scope at heap tree h s in
    subst P (sym made) (CameTo-one p sets sets heap tree group what (sets.test (path_of group)) (shared.Go after) continues (λ c. ap (λ i. sets.test i c) (moved_path p sets group after taken position same row scope at heap tree h s)) (λ c t. ap Go (moved_state p sets group after taken position same row scope at heap tree h s c)))

-- past the instruction, with a text written
pub written-gives : {S I : Type 0} (site : Site) (sets : Sets I) (group after : GroupView S I) (taken position : ℕ) (stream : Stream) (text : ℕ) (start outcomes : List (Outcome S I)) → position ≡ group.top.position + site.size → after ≡ record group { top = record (group.top) { position = position; stack = after.top.stack } } → IsRow slot_cmp sets after.top.stack → after.top.stack.scope ≡ path_of group → ((c : List Bool) → operands_at sets after.top.stack c ≡ drop taken (operands_at sets group.top.stack c)) → start ≡ [] → outcomes ≡ start ++ shared.Write after stream text ∷ [] → (heap : HeapView S I) → text < length heap.texts → GivesAt site.program.now (λ heap _ s. written site taken stream text heap s) sets sets group outcomes heap
written-gives {S = S} {I = I} site sets group after taken position stream text start outcomes there same row scope at none made heap known tree h s =
    let p = site.program.now in
    let what : List Bool → PlainOutcome = λ c. written site taken stream text heap (state_at sets heap tree group c) in
    let P : List (Outcome S I) → Type 0 = λ xs. CameTo p sets sets heap tree group what (sets.test (path_of group)) xs in
    let continues = moved_continues p sets group after taken position same row scope at heap tree h s in
    subst P (sym (made ∙ (λ i. none i ++ shared.Write after stream text ∷ []))) (CameTo-one p sets sets heap tree group what (sets.test (path_of group)) (shared.Write after stream text) (continues, known) (λ c. ap (λ i. sets.test i c) (moved_path p sets group after taken position same row scope at heap tree h s)) (λ c t. ap (λ r. Write stream (text_at heap.texts text) r) (moved_state p sets group after taken position same row scope at heap tree h s c ∙ ap (λ n. at_position (state_at sets heap tree group c) n (drop taken (state_at sets heap tree group c).top.operands)) there)))

-- the runs end with this end, whatever their state
pub ended-gives : {S I : Type 0} (p : Program) (sets : Sets I) (group : GroupView S I) (condition : I) (end : End) (start outcomes : List (Outcome S I)) → condition ≡ path_of group → start ≡ [] → outcomes ≡ start ++ shared.Ended condition end ∷ [] → Gives p (λ _. Ended end) sets sets group outcomes
ended-gives {S = S} {I = I} p sets group condition end start outcomes same none made heap tree h s =
    let what : List Bool → PlainOutcome = λ c. Ended end in
    let P : List (Outcome S I) → Type 0 = λ xs. CameTo p sets sets heap tree group what (sets.test (path_of group)) xs in
    let one : outcomes ≡ shared.Ended (path_of group) end ∷ [] = made ∙ (λ i. none i ++ shared.Ended (same i) end ∷ []) in
    subst P (sym one) (CameTo-one p sets sets heap tree group what (sets.test (path_of group)) (shared.Ended (path_of group) end) (IsGroup-path_known sets group (IsGroupIn-group sets tree group s.is_group)) (λ c. refl) (λ c t. refl))

-- the objects of the answers are thrown
pub thrown-gives : {S I : Type 0} (p : Program) {s0 s1 : Sets I} → Extends s0 s1 → (group : GroupView S I) (answers : Conditional Answer S I) (thrown : Conditional Slot S I) (start outcomes : List (Outcome S I)) → IsCond slot_cmp s1 thrown → thrown.scope ≡ path_of group → ((c : List Bool) → s0.test (path_of group) c ≡ true → slot_at s1 thrown c ≡ slot_by (answer_at s0 answers c)) → start ≡ [] → outcomes ≡ start ++ shared.Throw group thrown ∷ [] → (heap : HeapView S I) → AreObjectsHeld s0 heap (path_of group) answers → GivesAt p (thrown_by s0 answers) s0 s1 group outcomes heap
thrown-gives {S = S} {I = I} p {s0 = s0} {s1 = s1} e group answers thrown start outcomes is_cond scope value none made heap held tree h s =
    let known = IsGroup-path_known s0 group (IsGroupIn-group s0 tree group s.is_group) in
    let path : (c : List Bool) → s1.test (path_of group) c ≡ true → s0.test (path_of group) c ≡ true = λ c t. sym (e.test (path_of group) c known) ∙ t in
    let what : List Bool → PlainOutcome = λ c. thrown_by s0 answers heap c (state_at s0 heap tree group c) in
    let P : List (Outcome S I) → Type 0 = λ xs. CameTo p s0 s1 heap tree group what (s0.test (path_of group)) xs in
    let is_thrown : IsThrown s1 heap group thrown = record {
      is_cond = is_cond;
      scope = scope;
      object = λ c t. ap is_object (value c (path c t)) ∙ held.object c (path c t);
      held = λ c t. ap (is_held s1 heap c) (value c (path c t)) ∙ is_held-extends e heap h c (slot_by (answer_at s0 answers c)) ∙ held.held c (path c t);
    } in
    let said : (c : List Bool) → s0.test (path_of group) c ≡ true → Throw (object_named s1 heap c (slot_at s1 thrown c)) (state_at s1 heap tree group c) ≡ what c = λ c t.
    let object = ap (object_named s1 heap c) (value c t) ∙ object_named-extends e heap h c (slot_by (answer_at s0 answers c)) in
    let state = state_at-extends tree e heap h group s.is_group c in
    λ i. Throw (object i) (state i) in
    subst P (sym (made ∙ (λ i. none i ++ shared.Throw group thrown ∷ []))) (CameTo-one p s0 s1 heap tree group what (s0.test (path_of group)) (shared.Throw group thrown) (Continues-same p tree e heap h group s, is_thrown) (λ c. e.test (path_of group) c known) said)

pub raised-gives : {S I : Type 0} (p : Program) (sets : Sets I) (group : GroupView S I) (class : ClassId) (message : Option ℕ) (start outcomes : List (Outcome S I)) → start ≡ [] → outcomes ≡ start ++ shared.Raise group class message ∷ [] → (heap : HeapView S I) → IsMessage heap message → GivesAt p (λ heap _ s. Raise class.0 (message_of heap message) s) sets sets group outcomes heap
raised-gives {S = S} {I = I} p sets group class message start outcomes none made heap known tree h s =
    let what : List Bool → PlainOutcome = λ c. Raise class.0 (message_of heap message) (state_at sets heap tree group c) in
    let P : List (Outcome S I) → Type 0 = λ xs. CameTo p sets sets heap tree group what (sets.test (path_of group)) xs in
    subst P (sym (made ∙ (λ i. none i ++ shared.Raise group class message ∷ []))) (CameTo-one p sets sets heap tree group what (sets.test (path_of group)) (shared.Raise group class message) (Continues-same p tree (Extends-refl sets) heap h group s, known) (λ c. refl) (λ c t. refl))
