-- What comes of a group whose frame on top is left, over the frames that are there then.
use Rattle.std.proofs.Common.{◌≡◌, ℕ, ◌++◌, Bool, true, false, List, [], ◌∷◌, refl, sym, ◌∙◌, ap, length, map, reverse, subst}
use Rattle.std.specs.List.{list_all}
use Rattle.std.specs.Prelude.{◌≢◌, Option}
use Rattle.vx_space.specs.Sets.{Sets, Extends}
use Rattle.vx_space.proofs.Spaces.{Extends-refl}
use Rattle.vx_cond.specs.Cond.{Conditional, IsCond}
use Rattle.vx_cond.specs.Row.{Conditionals, IsRow}
use Rattle.vx_cond.specs.Slots.{or_top, slot_at, slots_at}
use Rattle.vx_cond.proofs.CondLaws.{cond_at-extends}
use Rattle.vx_cond.proofs.RowSteps.{IsRow-popped}
use Rattle.vx_frame.specs.declared.frame.Frame.{Frame}
use Rattle.vx_frame.specs.Frame.{frame_at}
use Rattle.vx_frame.proofs.FrameLaws.{IsFrame-stack}
use Rattle.vx_frames.specs.Entering.{with_frame}
use Rattle.vx_frames.specs.Giving.{GivesIn}
use Rattle.vx_frames.specs.Uncovering.{IsUncovered}
use Rattle.vx_frames.specs.Waking.{IsWoken}
use Rattle.vx_frames.specs.Unwinding.{is_call}
use Rattle.vx_group.specs.declared.callers.Caller.{Caller}
use Rattle.vx_group.specs.Callers.{callers_of, frames_at}
use Rattle.vx_group.specs.Group.{GroupView, IsGroup, path_of}
use Rattle.vx_group.proofs.GroupLaws.{IsGroup-path_known, IsGroup-top, IsGroupIn-group}
use Rattle.vx_group_states.proofs.AnswerLaws.{operands_at-push}
use Rattle.vx_group_states.proofs.OutcomeStates.{CameTo-one, CameTo-same, CameTo-through}
use Rattle.vx_group_states.proofs.SettleLaws.{stack_scope}
use Rattle.vx_group_states.proofs.StateLaws.{Continues-moved, Continues-trans, IsGroup-moved, both_first, operands_held, state_at-moved}
use Rattle.vx_group_states.specs.Answering.{operands_at}
use Rattle.vx_group_states.specs.Sites.{Gives, GivesAt, here}
use Rattle.vx_group_states.specs.Stands.{CameTo, Continues, StandsIn, plain_frame, state_at}
use Rattle.vx_group_states.specs.declared.site.Site.{Site}
use Rattle.vx_heap.proofs.HeapLaws.{IsHeap-extends, is_held-extends, value_of-extends}
use Rattle.vx_heap.specs.Changing.{IsValueHeld}
use Rattle.vx_heap.specs.Heap.{HeapView, IsHeap, is_held, value_of}
use Rattle.vx_java.specs.Machine.{Ended, Go, Value}
use Rattle.vx_java.specs.Machine.{Frame as PlainFrameOf}
use Rattle.vx_link.specs.declared.program.Program.{Program}
use Rattle.vx_outcome.specs.declared.outcome.Outcome.{Outcome}
use Rattle.vx_outcome.specs.declared.outcome.Outcome.TheVariants as shared
use Rattle.vx_value.specs.Slot.{slot_cmp}
use Rattle.vx_value.specs.declared.end.End.TheVariants.{Return as ReturnEnd}
use Rattle.vx_value.specs.declared.key.Kind.{Kind}
use Rattle.vx_value.specs.declared.key.Kind.TheVariants.{Call, Init, Wait}
use Rattle.vx_value.specs.declared.slot.Slot.{Slot}
use Rattle.vx_returns.proofs.ReturnLaws.{left_call, left_first, left_waiting, received_is, resumed}
use Rattle.vx_returns.specs.Handing.{handed, left_by, left_to, past_call, received}
use Rattle.vx_returns.specs.declared.receiving.ReturnSite.{ReturnSite}

-- ---- the first frame

pub first-leaves : {S I : Type 0} (site : Site) (returns : Bool) (sets : Sets I) (tree : List (Option (Caller S I))) (group : GroupView S I) (outcomes : List (Outcome S I)) → length group.below ≡ 0 → Gives site.program.now (λ _. Ended ReturnEnd) sets sets group outcomes → (heap : HeapView S I) → GivesIn site.program.now (λ _ _. left_by site returns) sets sets tree tree group outcomes heap
first-leaves site returns sets tree group outcomes none gives heap h s = CameTo-same site.program.now sets sets heap tree group (λ _. Ended ReturnEnd) (λ c. left_by site returns (state_at sets heap tree group c)) (sets.test (path_of group)) (sets.test (path_of group)) outcomes (λ c. refl) (λ c t. left_first site returns (state_at sets heap tree group c) (ap (λ n. map (plain_frame sets heap c) (frames_at sets (callers_of tree n group.caller) c)) none)) (gives heap tree h s)

-- ---- the frame below an initialisation

pub not_call : (kind : Kind) → kind ≢ Call → is_call kind ≡ false
not_call Call h = absurd (h refl)
not_call Init h = refl
not_call Wait h = refl

pub left_to_waiting : {S I : Type 0} (site : Site) (returns : Bool) {s0 s1 : Sets I} (heap : HeapView S I) (tree : List (Option (Caller S I))) (group below after : GroupView S I) (frame : Frame S I) → IsHeap s0 heap → StandsIn site.program.now s0 heap tree group → is_call group.top.kind ≡ false → Extends s0 s1 → IsUncovered s0 s1 tree group frame below → IsWoken s1 below after → CameTo site.program.now s0 s1 heap tree group (λ c. left_by site returns (state_at s0 heap tree group c)) (s0.test (path_of group)) (shared.Go after ∷ [])
left_to_waiting {S = S} {I = I} site returns {s0 = s0} {s1 = s1} heap tree group below after frame v s k e u w =
    let p = site.program.now in
    let v1 = IsHeap-extends e heap v in
    let known = IsGroup-path_known s0 group (IsGroupIn-group s0 tree group s.is_group) in
    let down = u.continues p heap v s in
    let path : path_of after ≡ path_of group = ap (λ (g : GroupView S I). path_of g) w.same ∙ ap (λ (cond : Conditional ℕ S I). cond.scope) u.attempts in
    let kind : is_call frame.kind ≡ false = ap (λ (f : Frame S I). is_call f.kind) u.top ∙ k in
    let taken : List Bool → PlainFrameOf = λ c. plain_frame s0 heap c (frame_at s0 frame c) in
    CameTo-one p s0 s1 heap tree group (λ c. left_by site returns (state_at s0 heap tree group c)) (s0.test (path_of group)) (shared.Go after) (Continues-trans p s0 s1 s1 heap heap tree tree group below after down (w.continues p heap tree v1 down.stands)) (λ c. ap (λ i. s1.test i c) path ∙ e.test (path_of group) c known) (λ c t. ap Go (w.at heap tree v1 u.is_group c) ∙ sym (left_waiting site (state_at s1 heap tree below c) (taken c) (handed returns (taken c).operands) kind) ∙ sym (ap (left_by site returns) (u.at heap v c t)))

-- ---- a caller past its call

pub IsGroup-past : {S I : Type 0} (p : Program) (sets : Sets I) (caller : GroupView S I) → IsGroup sets caller → IsGroup sets (past_call p caller)
IsGroup-past p sets caller v = IsGroup-moved (Extends-refl sets) caller caller.top.stack (past_call p caller).top.position v (IsFrame-stack sets caller.top (IsGroup-top sets caller v)) (stack_scope sets caller v)

past_continues : {S I : Type 0} (p : Program) (sets : Sets I) (heap : HeapView S I) (tree : List (Option (Caller S I))) (caller : GroupView S I) → IsHeap sets heap → StandsIn p sets heap tree caller → Continues p sets sets heap tree caller (past_call p caller)
past_continues p sets heap tree caller v s =
    let alone = IsGroupIn-group sets tree caller s.is_group in
    Continues-moved p tree (Extends-refl sets) heap v caller caller.top.stack (past_call p caller).top.position (λ c. reverse (slots_at sets caller.top.stack c)) s (IsFrame-stack sets caller.top (IsGroup-top sets caller alone)) (stack_scope sets caller alone) (λ c t. refl) (λ c t. operands_held p sets heap tree caller s c t)

past_state : {S I : Type 0} (p : Program) (sets : Sets I) (heap : HeapView S I) (tree : List (Option (Caller S I))) (caller : GroupView S I) → IsHeap sets heap → StandsIn p sets heap tree caller → (c : List Bool) → state_at sets heap tree (past_call p caller) c ≡ resumed p (state_at sets heap tree caller c) []
past_state p sets heap tree caller v s c = state_at-moved p tree (Extends-refl sets) heap v caller caller.top.stack (past_call p caller).top.position s c (reverse (slots_at sets caller.top.stack c)) refl

-- no value is handed back
pub left_to_caller : {S I : Type 0} (site : Site) {s0 s1 : Sets I} (heap : HeapView S I) (tree : List (Option (Caller S I))) (group caller : GroupView S I) (frame : Frame S I) → IsHeap s0 heap → StandsIn site.program.now s0 heap tree group → group.top.kind ≡ Call → Extends s0 s1 → IsUncovered s0 s1 tree group frame caller → CameTo site.program.now s0 s1 heap tree group (λ c. left_by site false (state_at s0 heap tree group c)) (s0.test (path_of group)) (shared.Go (past_call site.program.now caller) ∷ [])
left_to_caller {S = S} {I = I} site {s0 = s0} {s1 = s1} heap tree group caller frame v s k e u =
    let p = site.program.now in
    let v1 = IsHeap-extends e heap v in
    let known = IsGroup-path_known s0 group (IsGroupIn-group s0 tree group s.is_group) in
    let down = u.continues p heap v s in
    let path : path_of caller ≡ path_of group = ap (λ (cond : Conditional ℕ S I). cond.scope) u.attempts in
    let kind : frame.kind ≡ Call = ap (λ (f : Frame S I). f.kind) u.top ∙ k in
    let taken : List Bool → PlainFrameOf = λ c. plain_frame s0 heap c (frame_at s0 frame c) in
    CameTo-one p s0 s1 heap tree group (λ c. left_by site false (state_at s0 heap tree group c)) (s0.test (path_of group)) (shared.Go (past_call p caller)) (Continues-trans p s0 s1 s1 heap heap tree tree group caller (past_call p caller) down (past_continues p s1 heap tree caller v1 down.stands)) (λ c. ap (λ i. s1.test i c) path ∙ e.test (path_of group) c known) (λ c t. ap Go (past_state p s1 heap tree caller v1 down.stands c) ∙ sym (left_call site (state_at s1 heap tree caller c) (taken c) [] kind) ∙ sym (ap (left_by site false) (u.at heap v c t)))

-- ---- the value on top

first_held : (test : Slot → Bool) (slot : Slot) (slots all : List Slot) → all ≡ slot ∷ slots → list_all test all ≡ true → test slot ≡ true
first_held test slot slots all e h = both_first (test slot) (list_all test slots) (sym (ap (list_all test) e) ∙ h)

-- the operands of a frame whose value on top is taken off then
with_top : {S I : Type 0} (sets : Sets I) (stack rest : Conditionals Slot S I) (value : Conditional Slot S I) → stack ≡ record rest { conds = rest.conds ++ value ∷ [] } → (c : List Bool) → operands_at sets stack c ≡ slot_at sets value c ∷ operands_at sets rest c
with_top sets stack rest value same c = ap (λ row. operands_at sets row c) same ∙ operands_at-push sets rest value c

handed_top : {S I : Type 0} (sets : Sets I) (heap : HeapView S I) (c : List Bool) (slot : Slot) (slots all : List Slot) → all ≡ slot ∷ slots → handed true (map (value_of sets heap c) all) ≡ value_of sets heap c slot ∷ []
handed_top sets heap c slot slots all e = ap (λ xs. handed true (map (value_of sets heap c) xs)) e

-- the value is valid, and of the path
pub top_value : {S I : Type 0} (sets : Sets I) (group : GroupView S I) (rest : Conditionals Slot S I) (value : Conditional Slot S I) → IsGroup sets group → group.top.stack ≡ record rest { conds = rest.conds ++ value ∷ [] } → IsCond slot_cmp sets value × (value.scope ≡ path_of group)
top_value {S = S} {I = I} sets group rest value v same =
    let P : Conditionals Slot S I → Type 0 = λ row. IsRow slot_cmp sets row in
    let parts = IsRow-popped slot_cmp sets rest value (subst P same (IsFrame-stack sets group.top (IsGroup-top sets group v))) in
    (parts.1, parts.2 ∙ sym (ap (λ (row : Conditionals Slot S I). row.scope) same) ∙ stack_scope sets group v)

-- the slot over a later space
slot_later : {S I : Type 0} {s0 s1 : Sets I} → Extends s0 s1 → (value : Conditional Slot S I) → IsCond slot_cmp s0 value → (c : List Bool) → slot_at s1 value c ≡ slot_at s0 value c
slot_later e value w c = ap or_top (cond_at-extends slot_cmp e value w c)

pub top_handed : {S I : Type 0} (p : Program) {s0 s1 : Sets I} (heap : HeapView S I) (tree : List (Option (Caller S I))) (group : GroupView S I) (rest : Conditionals Slot S I) (value : Conditional Slot S I) → IsHeap s0 heap → StandsIn p s0 heap tree group → Extends s0 s1 → group.top.stack ≡ record rest { conds = rest.conds ++ value ∷ [] } → IsCond slot_cmp s0 value → value.scope ≡ path_of group → IsValueHeld s1 heap value
top_handed p {s0 = s0} {s1 = s1} heap tree group rest value v s e same w scope = record {
  held = λ c t.
      let known = IsGroup-path_known s0 group (IsGroupIn-group s0 tree group s.is_group) in
      let inside : s0.test (path_of group) c ≡ true = sym (ap (λ i. s1.test i c) scope ∙ e.test (path_of group) c known) ∙ t in
      let held = first_held (is_held s0 heap c) (slot_at s0 value c) (operands_at s0 rest c) (operands_at s0 group.top.stack c) (with_top s0 group.top.stack rest value same c) (operands_held p s0 heap tree group s c inside) in
      ap (is_held s1 heap c) (slot_later e value w c) ∙ is_held-extends e heap v c (slot_at s0 value c) ∙ held;
}

-- the value on top is handed back
pub value_to_caller : {S I : Type 0} (site : Site) {s0 s1 s2 : Sets I} (heap : HeapView S I) (tree : List (Option (Caller S I))) (group caller : GroupView S I) (frame : Frame S I) (rest : Conditionals Slot S I) (value : Conditional Slot S I) (outcomes : List (Outcome S I)) → IsHeap s0 heap → StandsIn site.program.now s0 heap tree group → group.top.kind ≡ Call → Extends s0 s1 → IsUncovered s0 s1 tree group frame caller → frame.stack ≡ record rest { conds = rest.conds ++ value ∷ [] } → IsCond slot_cmp s0 value → GivesAt site.program.now (λ heap c s. received site.program.now (record { method = frame.method; position = frame.position }) (value_of s1 heap c (slot_at s1 value c)) s) s1 s2 (past_call site.program.now caller) outcomes heap → CameTo site.program.now s0 s2 heap tree group (λ c. left_by site true (state_at s0 heap tree group c)) (s0.test (path_of group)) outcomes
value_to_caller {S = S} {I = I} site {s0 = s0} {s1 = s1} {s2 = s2} heap tree group caller frame rest value outcomes v s k e u same w gives =
    let p = site.program.now in
    let v1 = IsHeap-extends e heap v in
    let known = IsGroup-path_known s0 group (IsGroupIn-group s0 tree group s.is_group) in
    let down = u.continues p heap v s in
    let past = past_continues p s1 heap tree caller v1 down.stands in
    let path : path_of caller ≡ path_of group = ap (λ (cond : Conditional ℕ S I). cond.scope) u.attempts in
    let kind : frame.kind ≡ Call = ap (λ (f : Frame S I). f.kind) u.top ∙ k in
    let at : ReturnSite = record { method = frame.method; position = frame.position } in
    let taken : List Bool → PlainFrameOf = λ c. plain_frame s0 heap c (frame_at s0 frame c) in
    let now : List Bool → Value = λ c. value_of s0 heap c (slot_at s0 value c) in
    let later : (c : List Bool) → value_of s1 heap c (slot_at s1 value c) ≡ now c = λ c. ap (value_of s1 heap c) (slot_later e value w c) ∙ value_of-extends e heap v c (slot_at s0 value c) in
    let handed_back : (c : List Bool) → handed true (taken c).operands ≡ now c ∷ [] = λ c. handed_top s0 heap c (slot_at s0 value c) (operands_at s0 rest c) (operands_at s0 frame.stack c) (with_top s0 frame.stack rest value same c) in
    CameTo-through p s0 s1 s2 heap tree group (past_call p caller) (λ c. received p at (value_of s1 heap c (slot_at s1 value c)) (state_at s1 heap tree (past_call p caller) c)) (λ c. left_by site true (state_at s0 heap tree group c)) (s0.test (path_of group)) outcomes (Continues-trans p s0 s1 s1 heap heap tree tree group caller (past_call p caller) down past) (λ c. ap (λ i. s1.test i c) path ∙ e.test (path_of group) c known) (λ c t.
    let below = state_at s1 heap tree caller c in
    (λ i. received p at (later c i) (past_state p s1 heap tree caller v1 down.stands c i))
    ∙ received_is p at below (now c)
    ∙ sym (left_call site below (taken c) (now c ∷ []) kind)
    ∙ sym (ap (λ value. left_to (here site (with_frame below (taken c))) (taken c).kind value (below.top ∷ below.callers)) (handed_back c))
    ∙ sym (ap (left_by site true) (u.at heap v c t))) (gives tree v1 past.stands)
