-- Groups that go past the instruction, with a value put on the operands or one taken off.
use Rattle.std.proofs.Common.{◌≡◌, ℕ, ◌+◌, Bool, true, List, [], ◌∷◌, ◌++◌, sym, ◌∙◌, ap, subst, map, drop}
use Rattle.std.specs.Prelude.{Option}
use Rattle.vx_cond.specs.Cond.{Conditional, IsCond}
use Rattle.vx_cond.specs.Row.{Conditionals, IsRow}
use Rattle.vx_cond.specs.Slots.{slot_at}
use Rattle.vx_cond.proofs.RowSteps.{IsRow-popped, IsRow-push}
use Rattle.vx_cond.proofs.RowLaws.{IsRow-extends}
use Rattle.vx_frame.proofs.FrameLaws.{IsFrame-stack}
use Rattle.vx_group.specs.Group.{GroupView, IsGroup, path_of}
use Rattle.vx_group.specs.declared.callers.Caller.{Caller}
use Rattle.vx_group.proofs.GroupLaws.{IsGroup-path_known, IsGroup-top}
use Rattle.vx_heap.specs.Heap.{HeapView, IsStaticRead, are_held, is_held, value_of}
use Rattle.vx_heap.proofs.HeapLaws.{is_held-extends, value_of-extends}
use Rattle.vx_java.specs.Machine.{Go, State, Top, Value, at_position, go}
use Rattle.vx_java.specs.Machine.{Outcome as PlainOutcome}
use Rattle.vx_list.specs.Places.{item_or}
use Rattle.vx_outcome.specs.declared.outcome.Outcome.{Outcome}
use Rattle.vx_outcome.specs.declared.outcome.Outcome.TheVariants as shared
use Rattle.vx_space.specs.Sets.{Extends, Sets}
use Rattle.vx_group_states.specs.Answering.{operands_at}
use Rattle.vx_group_states.specs.Sites.{Gives, GivesAt, here}
use Rattle.vx_group_states.specs.Stands.{CameTo, state_at}
use Rattle.vx_group_states.specs.declared.site.Site.{Site}
use Rattle.vx_group_states.proofs.AnswerLaws.{operands_at-push}
use Rattle.vx_group_states.proofs.OutcomeStates.{CameTo-one}
use Rattle.vx_group_states.proofs.PartLaws.{jumped-gives}
use Rattle.vx_group_states.proofs.SettleLaws.{stack_scope}
use Rattle.vx_group_states.proofs.StateLaws.{Continues-moved, both, operands_held, state_at-moved}
use Rattle.vx_value.specs.Slot.{slot_cmp}
use Rattle.vx_value.specs.declared.slot.Slot.{Slot}
use Rattle.vx_ready.proofs.Going.{operands_later}

-- ---- a value on top

-- at each configuration a value is put on the operands that names what is there
pub pushed-gives : {S I : Type 0} (site : Site) {s0 s1 : Sets I} (group after : GroupView S I) (value : Conditional Slot S I) (put : List Bool → State → Value) (outcomes : List (Outcome S I)) (heap : HeapView S I) → IsGroup s0 group → Extends s0 s1 → IsCond slot_cmp s1 value → value.scope ≡ path_of group → ((tree : List (Option (Caller S I))) (c : List Bool) → s0.test (path_of group) c ≡ true → value_of s1 heap c (slot_at s1 value c) ≡ put c (state_at s0 heap tree group c)) → ((c : List Bool) → s0.test (path_of group) c ≡ true → is_held s1 heap c (slot_at s1 value c) ≡ true) → after ≡ record group { top = record (group.top) { position = group.top.position + site.size; stack = record (group.top.stack) { conds = group.top.stack.conds ++ value ∷ [] } } } → outcomes ≡ shared.Go after ∷ [] → GivesAt site.program.now (λ _ c s. go (here site s) (put c s ∷ s.top.operands)) s0 s1 group outcomes heap
pushed-gives {S = S} {I = I} site {s0 = s0} {s1 = s1} group after value put outcomes heap alone e is_cond scope is_put is_there same made tree h s =
    let p = site.program.now in
    let stack : Conditionals Slot S I = record (group.top.stack) { conds = group.top.stack.conds ++ value ∷ [] } in
    let position = group.top.position + site.size in
    let what : List Bool → PlainOutcome = λ c. let state = state_at s0 heap tree group c in go (here site state) (put c state ∷ state.top.operands) in
    let operands : List Bool → List Slot = λ c. slot_at s1 value c ∷ operands_at s0 group.top.stack c in
    let row = IsRow-push slot_cmp s1 group.top.stack value (IsRow-extends slot_cmp e group.top.stack (IsFrame-stack s0 group.top (IsGroup-top s0 group alone))) is_cond (scope ∙ sym (stack_scope s0 group alone)) in
    let at : (c : List Bool) → operands_at s1 stack c ≡ operands c = λ c. operands_at-push s1 group.top.stack value c ∙ ap (λ slots. slot_at s1 value c ∷ slots) (operands_later e group alone c) in
    let held : (c : List Bool) → s0.test (path_of group) c ≡ true → are_held s0 heap c (operands c) ≡ true = λ c t. both _ _ (sym (is_held-extends e heap h c (slot_at s1 value c)) ∙ is_there c t) (operands_held p s0 heap tree group s c t) in
    let continues = Continues-moved p tree e heap h group stack position operands s row (stack_scope s0 group alone) (λ c t. at c) held in
    let P : List (Outcome S I) → Type 0 = λ xs. CameTo p s0 s1 heap tree group what (s0.test (path_of group)) xs in
    subst P (sym (made ∙ ap (λ g. shared.Go g ∷ []) same)) (CameTo-one p s0 s1 heap tree group what (s0.test (path_of group)) (shared.Go (record group { top = record (group.top) { position = position; stack = stack } })) continues (λ c. e.test (path_of group) c (IsGroup-path_known s0 group alone)) (λ c t.
    ap Go (state_at-moved p tree e heap h group stack position s c (operands c) (at c)) ∙ ap (λ v. Go (at_position (state_at s0 heap tree group c) position (v ∷ map (value_of s0 heap c) (operands_at s0 group.top.stack c)))) (sym (value_of-extends e heap h c (slot_at s1 value c)) ∙ is_put tree c t)))

-- ---- getstatic

pub got-gives : {S I : Type 0} (site : Site) {s0 s1 : Sets I} (group after : GroupView S I) (value : Conditional Slot S I) (field : ℕ) (outcomes : List (Outcome S I)) (heap : HeapView S I) → IsGroup s0 group → Extends s0 s1 → IsStaticRead s0 s1 heap field (path_of group) value → after ≡ record group { top = record (group.top) { position = group.top.position + site.size; stack = record (group.top.stack) { conds = group.top.stack.conds ++ value ∷ [] } } } → outcomes ≡ shared.Go after ∷ [] → GivesAt site.program.now (λ _ _ s. go (here site s) (item_or s.statics field Top ∷ s.top.operands)) s0 s1 group outcomes heap
got-gives site group after value field outcomes heap alone e r same made = pushed-gives site group after value (λ c s. item_or s.statics field Top) outcomes heap alone e r.is_cond r.scope (λ tree c t. r.at c t) r.held same made

-- ---- putstatic

pub put-gives : {S I : Type 0} (site : Site) (sets : Sets I) (group after : GroupView S I) (below : Conditionals Slot S I) (value : Conditional Slot S I) (outcomes : List (Outcome S I)) → IsGroup sets group → group.top.stack ≡ record below { conds = below.conds ++ value ∷ [] } → after ≡ record group { top = record (group.top) { position = group.top.position + site.size; stack = below } } → outcomes ≡ shared.Go after ∷ [] → Gives site.program.now (λ s. Go (at_position s (s.top.position + site.size) (drop 1 s.top.operands))) sets sets group outcomes
put-gives {S = S} {I = I} site sets group after below value outcomes alone popped same made heap tree h s =
    let P : Conditionals Slot S I → Type 0 = λ row. IsRow slot_cmp sets row in
    let parts = IsRow-popped slot_cmp sets below value (subst P popped (IsFrame-stack sets group.top (IsGroup-top sets group alone))) in
    let stack : after.top.stack ≡ below = ap (λ (g : GroupView S I). g.top.stack) same in
    let moved : after ≡ record group { top = record (group.top) { position = group.top.position + site.size; stack = after.top.stack } } = same ∙ (λ i. record group { top = record (group.top) { position = group.top.position + site.size; stack = sym stack i } }) in
    jumped-gives site.program.now sets group after 1 (group.top.position + site.size) outcomes moved (subst P (sym stack) parts.0) (ap (λ (r : Conditionals Slot S I). r.scope) stack ∙ sym (ap (λ (r : Conditionals Slot S I). r.scope) popped) ∙ stack_scope sets group alone) (λ c. ap (λ r. operands_at sets r c) stack ∙ ap (drop 1) (sym (ap (λ r. operands_at sets r c) popped ∙ operands_at-push sets below value c))) made heap tree h s
