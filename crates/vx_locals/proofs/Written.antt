-- What a group comes to whose locals and operands were written, and which then goes past the instruction where a test holds.
use Rattle.std.proofs.Common.{◌≡◌, ℕ, ℤ, Bool, true, false, List, [], ◌∷◌, ◌++◌, refl, sym, ◌∙◌, ap, subst, map}
use Rattle.std.proofs.lemmas.List.{map-set}
use Rattle.std.specs.Ordering.{bool_cmp, nat_cmp}
use Rattle.std.specs.Prelude.{Option, Some, ◌==◌, slice_set, unwrap_or}
use Rattle.vx_list.specs.Places.{item_or}
use Rattle.vx_value.specs.declared.slot.Slot.{Slot}
use Rattle.vx_value.specs.declared.slot.Slot.TheVariants.{Top, Int, Long, Null, Ref, Text}
use Rattle.vx_value.specs.Slot.{slot_cmp}
use Rattle.vx_space.specs.Sets.{Sets, Extends}
use Rattle.vx_cond.specs.declared.cond.Leaf.{Leaf}
use Rattle.vx_cond.specs.Cond.{Conditional, IsCond, cond_at}
use Rattle.vx_cond.specs.Leaves.{value_at}
use Rattle.vx_cond.specs.Row.{Conditionals, IsRow}
use Rattle.vx_cond.specs.Slots.{slot_at, slots_at}
use Rattle.vx_cond.proofs.CondLaws.{IsCond-extends, cond_at-extends}
use Rattle.vx_cond.proofs.RowSteps.{IsRow-popped}
use Rattle.vx_frame.specs.Frame.{PlainFrame, frame_at, shape_of}
use Rattle.vx_frame.proofs.FrameLaws.{IsFrame-rows, IsFrame-stack}
use Rattle.vx_group.specs.declared.callers.Caller.{Caller}
use Rattle.vx_group.specs.Group.{GroupView, IsGroup, path_of}
use Rattle.vx_group.proofs.GroupLaws.{IsGroupIn-group, IsGroup-attempts, IsGroup-of_parts, IsGroup-one_scope, IsGroup-path_known, IsGroup-top, attempts_at-extends}
use Rattle.vx_heap.specs.Heap.{HeapView, IsHeap, are_held, is_held, value_of}
use Rattle.vx_heap.proofs.HeapLaws.{IsHeap-extends}
use Rattle.vx_java.specs.Initialisation.{max_locals}
use Rattle.vx_java.specs.Locals.{increase, locals_with, store, with_locals}
use Rattle.vx_java.specs.Machine.{State, go, illegal, past, when}
use Rattle.vx_java.specs.Machine.{Outcome as PlainOutcome, Go}
use Rattle.vx_java.specs.Machine.{Top as TopValue}
use Rattle.vx_java.specs.declared.operation.Sort.{Sort}
use Rattle.vx_java.specs.declared.operation.Sort.TheVariants.{Int as IntSort}
use Rattle.vx_link.specs.Parts.{method_at}
use Rattle.vx_outcome.specs.declared.outcome.Outcome.{Outcome}
use Rattle.vx_group_states.specs.Answering.{operands_at}
use Rattle.vx_group_states.specs.Sites.{Gives, GivesAt, here, settled_by}
use Rattle.vx_group_states.specs.Stands.{Continues, StandsIn, frame_held, is_shaped, plain_frame, state_at}
use Rattle.vx_group_states.specs.declared.site.Site.{Site}
use Rattle.vx_group_states.proofs.AnswerLaws.{operands_at-push}
use Rattle.vx_group_states.proofs.OutcomeStates.{CameTo-through}
use Rattle.vx_group_states.proofs.SettleLaws.{stack_scope}
use Rattle.vx_group_states.proofs.StateLaws.{StandsIn-same_callers, both, both_first, both_second, state_at-same_callers, top_held, top_shaped}
use Rattle.vx_families.specs.Sorts.{slot_is_of}
use Rattle.vx_locals.specs.Slots.{AreLocals, increased, stored, top_at}
use Rattle.vx_families.proofs.SlotSorts.{same_sort}
use Rattle.vx_locals.proofs.Values.{increased_held, item_held, item_value, set_held, stored_held, stored_values}

-- ---- a group with other locals and operands

abbrev pub written : {S I : Type 0} → GroupView S I → Conditionals Slot S I → Conditionals Slot S I → GroupView S I
written group locals stack = record group { top = record (group.top) { locals = locals; stack = stack } }

-- the plain frame then
abbrev pub written_frame : {S I : Type 0} → Sets I → GroupView S I → List Bool → List Slot → List Slot → PlainFrame
written_frame sets group c locals operands = record (frame_at sets group.top c) { locals = locals; operands = operands }

pub IsGroup-written : {S I : Type 0} {s0 s1 : Sets I} (group : GroupView S I) (locals stack : Conditionals Slot S I) (slots : List Bool → List Slot) → Extends s0 s1 → IsGroup s0 group → AreLocals s0 s1 group.top.locals slots locals → IsRow slot_cmp s1 stack → stack.scope ≡ path_of group → IsGroup s1 (written group locals stack)
IsGroup-written {s0 = s0} {s1 = s1} group locals stack slots e v a r scope =
    let one = a.scope ∙ IsGroup-one_scope s0 group v in
    IsGroup-of_parts s1 (written group locals stack) (IsCond-extends nat_cmp e group.attempts (IsGroup-attempts s0 group v)) (IsFrame-rows s1 (record (group.top) { locals = locals; stack = stack }) a.is_row r (scope ∙ sym one)) one

module _ {S I : Type 0} (site : Site) {s0 s1 : Sets I} (group : GroupView S I) (locals stack : Conditionals Slot S I) (slots operands : List Bool → List Slot) (e : Extends s0 s1) (a : AreLocals s0 s1 group.top.locals slots locals) (r : IsRow slot_cmp s1 stack) (scope : stack.scope ≡ path_of group) (at : (c : List Bool) → s0.test (path_of group) c ≡ true → operands_at s1 stack c ≡ operands c) where
  locals_at : IsGroup s0 group → (c : List Bool) → s0.test (path_of group) c ≡ true → slots_at s1 locals c ≡ slots c
  locals_at v c t = a.at c (ap (λ i. s0.test i c) (IsGroup-one_scope s0 group v) ∙ t)

  frame_is : IsGroup s0 group → (c : List Bool) → s0.test (path_of group) c ≡ true → frame_at s1 (written group locals stack).top c ≡ written_frame s0 group c (slots c) (operands c)
  frame_is v c t =
      let one = locals_at v c t in
      let two = at c t in
      λ i. record { kind = group.top.kind; method = group.top.method.0; position = group.top.position; locals = one i; operands = two i }

  Continues-written : (tree : List (Option (Caller S I))) (heap : HeapView S I) → IsHeap s0 heap → StandsIn site.program.now s0 heap tree group → ((c : List Bool) → s0.test (path_of group) c ≡ true → frame_held s0 heap c (written_frame s0 group c (slots c) (operands c)) ≡ true) → Continues site.program.now s0 s1 heap tree group (written group locals stack)
  Continues-written tree heap h s held =
      let p = site.program.now in
      let alone = IsGroupIn-group s0 tree group s.is_group in
      let inside : (c : List Bool) → s1.test (path_of group) c ≡ true → s0.test (path_of group) c ≡ true = λ c t. sym (e.test (path_of group) c (IsGroup-path_known s0 group alone)) ∙ t in
      let shaped : is_shaped p (shape_of (written group locals stack).top) ≡ true = ap (λ (n : ℕ). n == max_locals (method_at p group.top.method.0).code) a.count ∙ top_shaped p s0 heap tree group s in
      record {
        stands = StandsIn-same_callers p tree e heap h group (written group locals stack) s (IsGroup-written group locals stack slots e alone a r scope) refl refl inside shaped (λ c t. ap (frame_held s0 heap c) (frame_is alone c (inside c t)) ∙ held c (inside c t));
        inside = inside;
        attempts = λ c t. attempts_at-extends e group alone c;
      }

  state_is : (tree : List (Option (Caller S I))) (heap : HeapView S I) → IsHeap s0 heap → StandsIn site.program.now s0 heap tree group → (c : List Bool) → s0.test (path_of group) c ≡ true → state_at s1 heap tree (written group locals stack) c ≡ record (state_at s0 heap tree group c) { top = plain_frame s0 heap c (written_frame s0 group c (slots c) (operands c)) }
  state_is tree heap h s c t = state_at-same_callers tree e heap h group (written group locals stack) s.is_group refl refl c (written_frame s0 group c (slots c) (operands c)) (frame_is (IsGroupIn-group s0 tree group s.is_group) c t)

  -- what the written group comes to, told of the first one
  pub written-gives : (s2 : Sets I) (holds : List (Leaf Bool S I)) (says : State → PlainOutcome) (outcomes : List (Outcome S I)) → ((heap : HeapView S I) (c : List Bool) → s0.test (path_of group) c ≡ true → frame_held s0 heap c (frame_at s0 group.top c) ≡ true → frame_held s0 heap c (written_frame s0 group c (slots c) (operands c)) ≡ true) → ((heap : HeapView S I) (tree : List (Option (Caller S I))) (c : List Bool) → s0.test (path_of group) c ≡ true → settled_by site s1 holds c (record (state_at s0 heap tree group c) { top = plain_frame s0 heap c (written_frame s0 group c (slots c) (operands c)) }) ≡ says (state_at s0 heap tree group c)) → ((heap : HeapView S I) → GivesAt site.program.now (λ _. settled_by site s1 holds) s1 s2 (written group locals stack) outcomes heap) → Gives site.program.now says s0 s2 group outcomes
  written-gives s2 holds says outcomes held law gives heap tree h s =
      let p = site.program.now in
      let alone = IsGroupIn-group s0 tree group s.is_group in
      let after = written group locals stack in
      let continues = Continues-written tree heap h s (λ c t. held heap c t (top_held p s0 heap tree group s c t)) in
      CameTo-through p s0 s1 s2 heap tree group after (λ c. settled_by site s1 holds c (state_at s1 heap tree after c)) (λ c. says (state_at s0 heap tree group c)) (s0.test (path_of group)) outcomes continues (λ c. e.test (path_of group) c (IsGroup-path_known s0 group alone)) (λ c t. ap (settled_by site s1 holds c) (state_is tree heap h s c t) ∙ law heap tree c t) (gives heap tree (IsHeap-extends e heap h) continues.stands)

-- ---- a test at a configuration

-- what a test on an earlier space says
pub test_at : {S I : Type 0} {s0 s1 : Sets I} (fits : Conditional Bool S I) (c : List Bool) (b : Bool) → Extends s0 s1 → IsCond bool_cmp s0 fits → cond_at s0 fits c ≡ Some b → unwrap_or (value_at s1 fits.leaves c) false ≡ b
test_at fits c b e v h = ap (λ o. unwrap_or o false) (cond_at-extends bool_cmp e fits v c ∙ h)

-- ---- stores

store_law : {S I : Type 0} (site : Site) (sets : Sets I) (heap : HeapView S I) (c : List Bool) (s : State) (sort : Sort) (n : ℕ) (slots rest : List Slot) (slot : Slot) (b : Bool) → slot_is_of sort slot ≡ b → s.top.locals ≡ map (value_of sets heap c) slots → when b (go (here site (record s { top = record (s.top) { locals = map (value_of sets heap c) (stored sort slots n slot); operands = map (value_of sets heap c) rest } })) (map (value_of sets heap c) rest)) (illegal (here site (record s { top = record (s.top) { locals = map (value_of sets heap c) (stored sort slots n slot); operands = map (value_of sets heap c) rest } }))) ≡ when b (Go (past (here site s) (with_locals s (locals_with s.top.locals n (value_of sets heap c slot))) (map (value_of sets heap c) rest))) (illegal (here site s))
store_law site sets heap c s sort n slots rest slot true h e =
    let same = stored_values sets heap c sort slots n slot h ∙ ap (λ values. locals_with values n (value_of sets heap c slot)) (sym e) in
    ap (λ values. Go (past (here site s) (with_locals s values) (map (value_of sets heap c) rest))) same
store_law site sets heap c s sort n slots rest slot false h e = refl

-- where the top operand and the rest are these
pub stored_as : {S I : Type 0} (site : Site) (sets : Sets I) (heap : HeapView S I) (c : List Bool) (s : State) (sort : Sort) (n : ℕ) (slots rest : List Slot) (slot : Slot) (b : Bool) → b ≡ slot_is_of sort slot → s.top.locals ≡ map (value_of sets heap c) slots → s.top.operands ≡ map (value_of sets heap c) (slot ∷ rest) → when b (go (here site (record s { top = record (s.top) { locals = map (value_of sets heap c) (stored sort slots n slot); operands = map (value_of sets heap c) rest } })) (map (value_of sets heap c) rest)) (illegal (here site (record s { top = record (s.top) { locals = map (value_of sets heap c) (stored sort slots n slot); operands = map (value_of sets heap c) rest } }))) ≡ store (here site s) sort n s.top.operands
stored_as site sets heap c s sort n slots rest slot b h e f =
    store_law site sets heap c s sort n slots rest slot b (sym h) e
    ∙ ap (λ b. when b (Go (past (here site s) (with_locals s (locals_with s.top.locals n (value_of sets heap c slot))) (map (value_of sets heap c) rest))) (illegal (here site s))) (h ∙ sym (same_sort sets heap c sort slot))
    ∙ ap (store (here site s) sort n) (sym f)

pub store-gives : {S I : Type 0} (site : Site) {s0 s1 : Sets I} (s2 : Sets I) (group after : GroupView S I) (below locals : Conditionals Slot S I) (value : Conditional Slot S I) (fits : Conditional Bool S I) (sort : Sort) (n : ℕ) (outcomes : List (Outcome S I)) → Extends s0 s1 → AreLocals s0 s1 group.top.locals (λ c. stored sort (slots_at s0 group.top.locals c) n (slot_at s0 value c)) locals → IsRow slot_cmp s1 below → below.scope ≡ path_of group → group.top.stack ≡ record below { conds = below.conds ++ value ∷ [] } → ((c : List Bool) → operands_at s1 below c ≡ operands_at s0 below c) → IsCond bool_cmp s0 fits → ((c : List Bool) → s0.test (path_of group) c ≡ true → cond_at s0 fits c ≡ Some (slot_is_of sort (top_at s0 group.top.stack c))) → after ≡ written group locals below → ((heap : HeapView S I) → GivesAt site.program.now (λ _. settled_by site s1 fits.leaves) s1 s2 after outcomes heap) → Gives site.program.now (λ s. store (here site s) sort n s.top.operands) s0 s2 group outcomes
store-gives {S = S} {I = I} site {s0 = s0} {s1 = s1} s2 group after below locals value fits sort n outcomes e a r scope popped same v fit made gives =
    let operands : List Bool → List Slot = λ c. operands_at s0 below c in
    let taken : (c : List Bool) → operands_at s0 group.top.stack c ≡ slot_at s0 value c ∷ operands c = λ c. ap (λ row. operands_at s0 row c) popped ∙ operands_at-push s0 below value c in
    let P : GroupView S I → Type 0 = λ g. (heap : HeapView S I) → GivesAt site.program.now (λ _. settled_by site s1 fits.leaves) s1 s2 g outcomes heap in
    written-gives site group locals below (λ c. stored sort (slots_at s0 group.top.locals c) n (slot_at s0 value c)) operands e a r scope (λ c t. same c) s2 fits.leaves (λ s. store (here site s) sort n s.top.operands) outcomes
    (λ heap c t h.
    let held = ap (are_held s0 heap c) (sym (taken c)) ∙ both_second (are_held s0 heap c (slots_at s0 group.top.locals c)) _ h in
    both _ _ (stored_held s0 heap c sort (slots_at s0 group.top.locals c) n (slot_at s0 value c) (both_first (are_held s0 heap c (slots_at s0 group.top.locals c)) _ h) (both_first (is_held s0 heap c (slot_at s0 value c)) (are_held s0 heap c (operands c)) held)) (both_second (is_held s0 heap c (slot_at s0 value c)) (are_held s0 heap c (operands c)) held))
    (λ heap tree c t. stored_as site s0 heap c (state_at s0 heap tree group c) sort n (slots_at s0 group.top.locals c) (operands c) (slot_at s0 value c) (unwrap_or (value_at s1 fits.leaves c) false) (test_at fits c _ e v (fit c t) ∙ ap (λ xs. slot_is_of sort (item_or xs 0 Top)) (taken c)) refl (ap (map (value_of s0 heap c)) (taken c)))
    (subst P made gives)

-- ---- increases

increase_law : {S I : Type 0} (site : Site) (sets : Sets I) (heap : HeapView S I) (c : List Bool) (s : State) (n : ℕ) (by : ℤ) (slots : List Slot) (slot : Slot) → s.top.locals ≡ map (value_of sets heap c) slots → when (slot_is_of IntSort slot) (go (here site (record s { top = record (s.top) { locals = map (value_of sets heap c) (slice_set slots n (increased by slot)) } })) s.top.operands) (illegal (here site (record s { top = record (s.top) { locals = map (value_of sets heap c) (slice_set slots n (increased by slot)) } }))) ≡ increase (here site s) n by (value_of sets heap c slot)
increase_law site sets heap c s n by slots Top e = refl
increase_law site sets heap c s n by slots (Int a) e = ap (λ values. Go (past (here site s) (with_locals s values) s.top.operands)) (map-set (value_of sets heap c) slots n (increased by (Int a)) ∙ ap (λ values. slice_set values n (value_of sets heap c (increased by (Int a)))) (sym e))
increase_law site sets heap c s n by slots (Long a) e = refl
increase_law site sets heap c s n by slots Null e = refl
increase_law site sets heap c s n by slots (Ref i) e = refl
increase_law site sets heap c s n by slots (Text m) e = refl

pub increase-gives : {S I : Type 0} (site : Site) {s0 s1 : Sets I} (s2 : Sets I) (group after : GroupView S I) (locals : Conditionals Slot S I) (fits : Conditional Bool S I) (n : ℕ) (by : ℤ) (outcomes : List (Outcome S I)) → Extends s0 s1 → AreLocals s0 s1 group.top.locals (λ c. slice_set (slots_at s0 group.top.locals c) n (increased by (item_or (slots_at s0 group.top.locals c) n Top))) locals → IsRow slot_cmp s1 group.top.stack → group.top.stack.scope ≡ path_of group → ((c : List Bool) → operands_at s1 group.top.stack c ≡ operands_at s0 group.top.stack c) → IsCond bool_cmp s0 fits → ((c : List Bool) → s0.test (path_of group) c ≡ true → cond_at s0 fits c ≡ Some (slot_is_of IntSort (item_or (slots_at s0 group.top.locals c) n Top))) → after ≡ written group locals group.top.stack → ((heap : HeapView S I) → GivesAt site.program.now (λ _. settled_by site s1 fits.leaves) s1 s2 after outcomes heap) → Gives site.program.now (λ s. increase (here site s) n by (item_or s.top.locals n TopValue)) s0 s2 group outcomes
increase-gives {S = S} {I = I} site {s0 = s0} {s1 = s1} s2 group after locals fits n by outcomes e a r scope same v fit made gives =
    let slots : List Bool → List Slot = λ c. slots_at s0 group.top.locals c in
    let slot : List Bool → Slot = λ c. item_or (slots c) n Top in
    let P : GroupView S I → Type 0 = λ g. (heap : HeapView S I) → GivesAt site.program.now (λ _. settled_by site s1 fits.leaves) s1 s2 g outcomes heap in
    written-gives site group locals group.top.stack (λ c. slice_set (slots c) n (increased by (slot c))) (λ c. operands_at s0 group.top.stack c) e a r scope (λ c t. same c) s2 fits.leaves (λ s. increase (here site s) n by (item_or s.top.locals n TopValue)) outcomes
    (λ heap c t h.
    let locals_held = both_first (are_held s0 heap c (slots c)) _ h in
    both _ _ (set_held s0 heap c (slots c) n (increased by (slot c)) locals_held (increased_held s0 heap c by (slot c) (item_held s0 heap c (slots c) n locals_held))) (both_second (are_held s0 heap c (slots c)) _ h))
    (λ heap tree c t.
    let s = state_at s0 heap tree group c in
    ap (λ b. when b (go (here site (record s { top = record (s.top) { locals = map (value_of s0 heap c) (slice_set (slots c) n (increased by (slot c))) } })) s.top.operands) (illegal (here site (record s { top = record (s.top) { locals = map (value_of s0 heap c) (slice_set (slots c) n (increased by (slot c))) } })))) (test_at fits c _ e v (fit c t))
    ∙ increase_law site s0 heap c s n by (slots c) (slot c) refl
    ∙ ap (increase (here site s) n by) (sym (item_value s0 heap c (slots c) n)))
    (subst P made gives)

-- ---- the operand that was taken off

pub record IsTopOf {S I : Type 0} (sets : Sets I) (group : GroupView S I) (below : Conditionals Slot S I) (value : Conditional Slot S I) : Type 0 where
  pub below_row : IsRow slot_cmp sets below
  pub is_cond : IsCond slot_cmp sets value
  pub scope : value.scope ≡ path_of group
  pub below_scope : below.scope ≡ path_of group

pub top_taken : {S I : Type 0} (sets : Sets I) (group : GroupView S I) (below : Conditionals Slot S I) (value : Conditional Slot S I) → IsGroup sets group → group.top.stack ≡ record below { conds = below.conds ++ value ∷ [] } → IsTopOf sets group below value
top_taken {S = S} {I = I} sets group below value v e =
    let P : Conditionals Slot S I → Type 0 = λ row. IsRow slot_cmp sets row in
    let parts = IsRow-popped slot_cmp sets below value (subst P e (IsFrame-stack sets group.top (IsGroup-top sets group v))) in
    let scope : below.scope ≡ path_of group = sym (ap (λ (row : Conditionals Slot S I). row.scope) e) ∙ stack_scope sets group v in
    record { below_row = parts.0; is_cond = parts.1; scope = parts.2 ∙ scope; below_scope = scope }
