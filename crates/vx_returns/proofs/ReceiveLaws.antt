-- A caller that gets a value: where it fits, at each configuration.
use Rattle.std.proofs.Common.{◌≡◌, ℕ, ◌+◌, ◌<◌, ◌≤◌, Bool, true, false, List, [], ◌∷◌, ◌&&◌, refl, sym, ◌∙◌, ap, arith, length, map, subst}
use Rattle.std.proofs.lemmas.Bool.{lt-leb}
use Rattle.std.proofs.lemmas.List.{length-map}
use Rattle.std.specs.Ordering.{bool_cmp, nat_cmp}
use Rattle.std.specs.Prelude.{Some, nat_le}
use Rattle.vx_cond.proofs.RowSteps.{IsRow-push}
use Rattle.vx_cond.specs.Cond.{Conditional, IsCond, IsCondLifting, cond_at}
use Rattle.vx_cond.specs.Row.{Conditionals}
use Rattle.vx_cond.specs.Slots.{slot_at, slots_at}
use Rattle.vx_ready.proofs.Tops.{value_inside}
use Rattle.vx_frame.proofs.FrameLaws.{IsFrame-stack}
use Rattle.vx_group.proofs.GroupLaws.{IsGroup-extends, IsGroup-path_known, IsGroup-top}
use Rattle.vx_group.specs.Group.{GroupView, IsGroup, path_of}
use Rattle.vx_group_states.proofs.AnswerLaws.{operands_at-push}
use Rattle.vx_group_states.proofs.EndingLaws.{GivesAt-before}
use Rattle.vx_group_states.proofs.Fitting.{slots_size-least, stack_size_of}
use Rattle.vx_group_states.proofs.OutcomeStates.{CameTo-one, CameTo-through}
use Rattle.vx_group_states.proofs.SettleLaws.{stack_scope}
use Rattle.vx_group_states.proofs.StateLaws.{Continues-moved, Continues-same, IsGroup-moved, both, operands_held, state_at-moved}
use Rattle.vx_group_states.specs.Answering.{operands_at}
use Rattle.vx_group_states.specs.Sites.{Gives, GivesAt}
use Rattle.vx_group_states.specs.Stands.{CameTo, state_at}
use Rattle.vx_group_states.specs.Widths.{slots_size}
use Rattle.vx_heap.proofs.HeapLaws.{IsHeap-extends}
use Rattle.vx_heap.specs.Changing.{IsValueHeld}
use Rattle.vx_heap.specs.Heap.{HeapView, value_of}
use Rattle.vx_java.specs.Machine.{Go, Value, stack_size, when, width}
use Rattle.vx_java.specs.Machine.{Int, Long, Null, Ref, Text, Top}
use Rattle.vx_java.specs.Returns.{max_stack}
use Rattle.vx_link.specs.Parts.{method_at}
use Rattle.vx_link.specs.declared.program.Program.{Program}
use Rattle.vx_outcome.specs.declared.outcome.Outcome.{Outcome}
use Rattle.vx_outcome.specs.declared.outcome.Outcome.TheVariants as shared
use Rattle.vx_ready.proofs.Going.{operands_later}
use Rattle.vx_ready.proofs.Yes.{IsSet-asked}
use Rattle.vx_ready.specs.Initialising.{is_yes}
use Rattle.vx_space.proofs.Spaces.{Extends-refl}
use Rattle.vx_space.specs.Sets.{Extends, IsSet, Sets}
use Rattle.vx_value.specs.Slot.{slot_cmp}
use Rattle.vx_value.specs.declared.slot.Slot.{Slot}
use Rattle.vx_returns.specs.Handing.{ended_at, received, with_operand, with_pushed}
use Rattle.vx_returns.specs.declared.receiving.ReturnSite.{ReturnSite}

-- ---- the runs that go on

pub going-gives : {S I : Type 0} (p : Program) (sets : Sets I) (group : GroupView S I) (outcomes : List (Outcome S I)) → outcomes ≡ shared.Go group ∷ [] → Gives p Go sets sets group outcomes
going-gives {S = S} {I = I} p sets group outcomes made heap tree h s =
    let P : List (Outcome S I) → Type 0 = λ xs. CameTo p sets sets heap tree group (λ c. Go (state_at sets heap tree group c)) (sets.test (path_of group)) xs in
    subst P (sym made) (CameTo-one p sets sets heap tree group _ (sets.test (path_of group)) (shared.Go group) (Continues-same p tree (Extends-refl sets) heap h group s) (λ c. refl) (λ c t. refl))

-- ---- where operands fit

pub IsSet-within : {S I : Type 0} {s0 s1 s2 : Sets I} (R : ℕ → Bool → Type 0) (room : ℕ) (group : GroupView S I) (sizes : Conditional ℕ S I) (answers : Conditional Bool S I) (set : I) → IsGroup s0 group → Extends s0 s1 → IsCond nat_cmp s1 sizes → sizes.scope ≡ group.top.stack.scope → ((c : List Bool) → s0.test group.top.stack.scope c ≡ true → cond_at s1 sizes c ≡ Some (slots_size (slots_at s0 group.top.stack c))) → ((n : ℕ) (b : Bool) → R n b → b ≡ nat_le n room) → IsCondLifting bool_cmp s2 R (cond_at s1 sizes) answers → IsSet s2 set (λ c. is_yes (cond_at s2 answers c)) → IsSet s2 set (λ c. s0.test (path_of group) c && nat_le (slots_size (slots_at s0 group.top.stack c)) room)
IsSet-within {s0 = s0} {s1 = s1} {s2 = s2} R room group sizes answers set v e w scope at law l s =
    let path = stack_scope s0 group v in
    IsSet-asked s0 s1 s2 R (λ n. nat_le n room) (path_of group) (λ c. slots_size (slots_at s0 group.top.stack c)) sizes answers set law (value_inside nat_cmp e (path_of group) sizes (λ c. slots_size (slots_at s0 group.top.stack c)) (IsGroup-path_known s0 group v) w (scope ∙ path) (λ c t. at c (ap (λ i. s0.test i c) path ∙ t))) l s

-- ---- the value on the operands

pub IsGroup-pushed : {S I : Type 0} (sets : Sets I) (group : GroupView S I) (value : Conditional Slot S I) → IsGroup sets group → IsCond slot_cmp sets value → value.scope ≡ path_of group → IsGroup sets (with_pushed group value)
IsGroup-pushed sets group value v w scope =
    let row = IsRow-push slot_cmp sets group.top.stack value (IsFrame-stack sets group.top (IsGroup-top sets group v)) w (scope ∙ sym (stack_scope sets group v)) in
    IsGroup-moved (Extends-refl sets) group (with_pushed group value).top.stack group.top.position v row (stack_scope sets group v)

-- a value takes a word at least
some_width : (v : Value) → 1 ≤ width v
some_width Top = omega arith
some_width (Int n) = omega arith
some_width (Long n) = omega arith
some_width Null = omega arith
some_width (Ref r) = omega arith
some_width (Text units) = omega arith

-- as many operands as the greatest stack has words: no value fits
pub full-receives : {S I : Type 0} (p : Program) (sets : Sets I) (group : GroupView S I) (value : Conditional Slot S I) (room : ℕ) (at : ReturnSite) (outcomes : List (Outcome S I)) → room ≡ max_stack (method_at p group.top.method.0).code → room ≤ length group.top.stack.conds → Gives p (λ _. ended_at p at) sets sets group outcomes → (heap : HeapView S I) → GivesAt p (λ heap c s. received p at (value_of sets heap c (slot_at sets value c)) s) sets sets group outcomes heap
full-receives p sets group value room at outcomes roomed full gives heap =
    GivesAt-before p sets group heap (λ _ _ _. ended_at p at) (λ heap c s. received p at (value_of sets heap c (slot_at sets value c)) s) outcomes (Extends-refl sets) (λ tree h s c t.
    let slots = slots_at sets group.top.stack c in
    let v : Value = value_of sets heap c (slot_at sets value c) in
    let state = state_at sets heap tree group c in
    let count : length slots ≡ length group.top.stack.conds = simp length-map in
    let least = slots_size-least slots in
    let words : stack_size state.top.operands ≡ slots_size slots = stack_size_of sets heap c slots in
    let more : room < width v + stack_size state.top.operands = omega (arith, some_width v, words, least, count, full) in
    sym (ap (λ b. when b (Go (with_operand state v)) (ended_at p at)) (ap (nat_le (width v + stack_size state.top.operands)) (sym roomed) ∙ lt-leb (width v + stack_size state.top.operands) room more))) (gives heap)

both_there : (a b : Bool) → a ≡ true → (a && b) ≡ b
both_there true b h = refl
both_there false b h = cc

-- the value is put on the operands, and the parts by whether these fit come to what is said of a value that is received
pub received-gives : {S I : Type 0} (p : Program) {s0 s1 s2 : Sets I} (group : GroupView S I) (value : Conditional Slot S I) (room : ℕ) (fits : I) (at : ReturnSite) (outcomes : List (Outcome S I)) → IsGroup s0 group → IsCond slot_cmp s0 value → value.scope ≡ path_of group → room ≡ max_stack (method_at p group.top.method.0).code → Extends s0 s1 → IsSet s1 fits (λ c. s0.test (path_of group) c && nat_le (slots_size (slots_at s0 (with_pushed group value).top.stack c)) room) → (heap : HeapView S I) → IsValueHeld s0 heap value → GivesAt p (λ _ c s. when (s1.test fits c) (Go s) (ended_at p at)) s1 s2 (with_pushed group value) outcomes heap → GivesAt p (λ heap c s. received p at (value_of s0 heap c (slot_at s0 value c)) s) s0 s2 group outcomes heap
received-gives {S = S} {I = I} p {s0 = s0} {s1 = s1} {s2 = s2} group value room fits at outcomes v w scope roomed e fit heap held gives tree h s =
    let pushed = with_pushed group value in
    let stack : Conditionals Slot S I = pushed.top.stack in
    let position = group.top.position in
    let operands : List Bool → List Slot = λ c. slot_at s0 value c ∷ operands_at s0 group.top.stack c in
    let before : (c : List Bool) → operands_at s0 stack c ≡ operands c = λ c. operands_at-push s0 group.top.stack value c in
    let here = IsGroup-pushed s0 group value v w scope in
    let later : (c : List Bool) → operands_at s1 stack c ≡ operands c = λ c. operands_later e pushed here c ∙ before c in
    let row = IsFrame-stack s1 pushed.top (IsGroup-top s1 pushed (IsGroup-extends e pushed here)) in
    let known = IsGroup-path_known s0 group v in
    let continues = Continues-moved p tree e heap h group stack position operands s row (stack_scope s0 group v) (λ c t. later c) (λ c t. both _ _ (held.held c (ap (λ i. s0.test i c) scope ∙ t)) (operands_held p s0 heap tree group s c t)) in
    CameTo-through p s0 s1 s2 heap tree group pushed (λ c. when (s1.test fits c) (Go (state_at s1 heap tree pushed c)) (ended_at p at)) (λ c. received p at (value_of s0 heap c (slot_at s0 value c)) (state_at s0 heap tree group c)) (s0.test (path_of group)) outcomes continues (λ c. e.test (path_of group) c known) (λ c t.
    let state = state_at s0 heap tree group c in
    let put : Value = value_of s0 heap c (slot_at s0 value c) in
    let stands : state_at s1 heap tree pushed c ≡ with_operand state put = state_at-moved p tree e heap h group stack position s c (operands c) (later c) in
    let size : slots_size (slots_at s0 stack c) ≡ width put + stack_size state.top.operands = sym (stack_size_of s0 heap c (slots_at s0 stack c)) ∙ ap (λ slots. stack_size (map (value_of s0 heap c) slots)) (before c) in
    let fitting : s1.test fits c ≡ nat_le (width put + stack_size state.top.operands) (max_stack (method_at p group.top.method.0).code) = fit.test c ∙ both_there (s0.test (path_of group) c) (nat_le (slots_size (slots_at s0 stack c)) room) t ∙ (λ i. nat_le (size i) (roomed i)) in
    (λ i. when (fitting i) (Go (stands i)) (ended_at p at))) (gives tree (IsHeap-extends e heap h) continues.stands)
