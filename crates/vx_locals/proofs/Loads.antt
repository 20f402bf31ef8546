-- Constants and locals that are pushed, and places without a local or an operand.
use Rattle.std.proofs.Common.{◌≡◌, ℕ, ℤ, ◌≤◌, Bool, true, false, List, [], ◌∷◌, refl, sym, ◌∙◌, ap, subst, map, length, arith}
use Rattle.std.proofs.lemmas.List.{length-map}
use Rattle.std.specs.Prelude.{Option, Some, slice_get, unwrap_or, if◌then◌else◌}
use Rattle.vx_list.specs.Places.{item_or}
use Rattle.vx_value.specs.declared.slot.Slot.{Slot}
use Rattle.vx_value.specs.declared.slot.Slot.TheVariants.{Top}
use Rattle.vx_value.specs.Slot.{slot_cmp}
use Rattle.vx_space.specs.Sets.{Sets, Extends}
use Rattle.vx_space.proofs.Spaces.{Extends-refl}
use Rattle.vx_cond.specs.Cond.{Conditional, IsCond, IsCondLifting, IsCondOf, cond_at}
use Rattle.vx_cond.specs.Leaves.{value_within}
use Rattle.vx_cond.specs.Slots.{slot_at, slots_at}
use Rattle.vx_cond.proofs.RowSteps.{slots_at-get}
use Rattle.vx_frame.specs.Frame.{frame_at}
use Rattle.vx_group.specs.declared.callers.Caller.{Caller}
use Rattle.vx_group.specs.Group.{GroupView, IsGroup, path_of}
use Rattle.vx_group.proofs.GroupLaws.{IsGroup-path_known}
use Rattle.vx_heap.specs.Heap.{HeapView, is_held, value_of}
use Rattle.vx_heap.proofs.HeapLaws.{is_held-extends, value_of-extends}
use Rattle.vx_java.specs.Checks.{is_of}
use Rattle.vx_java.specs.Locals.{increase, load, store}
use Rattle.vx_java.specs.Machine.{Here, State, Value, illegal, illegal_in, push, when}
use Rattle.vx_java.specs.Machine.{Outcome as PlainOutcome}
use Rattle.vx_java.specs.Machine.{Top as TopValue}
use Rattle.vx_java.specs.declared.operation.Sort.{Sort}
use Rattle.vx_java.specs.declared.operation.Sort.TheVariants.{Int as IntSort, Long as LongSort, Reference}
use Rattle.vx_outcome.specs.declared.outcome.Outcome.{Outcome}
use Rattle.vx_group_states.specs.Answering.{AreHeld, answer_at, answered, answered_by, is_answer_held}
use Rattle.vx_group_states.specs.Answers.{answer_cmp}
use Rattle.vx_group_states.specs.Sites.{Gives, GivesAt, here}
use Rattle.vx_group_states.specs.Stands.{state_at}
use Rattle.vx_group_states.specs.declared.answer.Answer.{Answer}
use Rattle.vx_group_states.specs.declared.answer.Answer.TheVariants.{Illegal, Push}
use Rattle.vx_group_states.specs.declared.site.Site.{Site}
use Rattle.vx_group_states.proofs.EndingLaws.{GivesAt-before}
use Rattle.vx_group_states.proofs.StateLaws.{locals_held}
use Rattle.vx_families.specs.Pushing.{is_push}
use Rattle.vx_families.specs.Sorts.{slot_is_of}
use Rattle.vx_locals.specs.Slots.{loaded}
use Rattle.vx_locals.proofs.Lifts.{mapped_at, one_at}
use Rattle.vx_families.proofs.SlotSorts.{same_sort}
use Rattle.vx_locals.proofs.Values.{item_got, item_held, item_past, item_value}
use Rattle.vx_families.proofs.Pushes.{operand_count}

-- ---- constants

-- the answers that push a value
pub constant_at : {S I : Type 0} (sets : Sets I) (path scope : I) (value : Slot) (answers : Conditional Answer S I) → scope ≡ path → IsCondOf answer_cmp sets (value_within sets scope (λ _. Some (Push value))) answers → (c : List Bool) → sets.test path c ≡ true → answer_at sets answers c ≡ Push value
constant_at sets path scope value answers e o c t = ap (λ a. unwrap_or a Illegal) (one_at answer_cmp sets scope (Push value) answers o c (ap (λ i. sets.test i c) e ∙ t))

pub constant-gives : {S I : Type 0} (site : Site) {s0 : Sets I} (s1 : Sets I) (group : GroupView S I) (value : Slot) (answers : Conditional Answer S I) (outcomes : List (Outcome S I)) → ((c : List Bool) → s0.test (path_of group) c ≡ true → answer_at s0 answers c ≡ Push value) → ((heap : HeapView S I) → AreHeld s0 heap (path_of group) answers → GivesAt site.program.now (answered_by site 0 s0 answers) s0 s1 group outcomes heap) → (heap : HeapView S I) → ((c : List Bool) → s0.test (path_of group) c ≡ true → is_held s0 heap c value ≡ true) → GivesAt site.program.now (λ heap c s. push (here site s) (value_of s0 heap c value) s.top.operands) s0 s1 group outcomes heap
constant-gives site {s0 = s0} s1 group value answers outcomes at gives heap held =
    GivesAt-before site.program.now s1 group heap (answered_by site 0 s0 answers) (λ heap c s. push (here site s) (value_of s0 heap c value) s.top.operands) outcomes (Extends-refl s0) (λ tree h s c t.
    let state = state_at s0 heap tree group c in
    ap (answered s0 heap c (here site state) state.top.operands) (at c t)) (gives heap (record { held = λ c t. ap (is_answer_held s0 heap c) (at c t) ∙ held c t }))

-- ---- loads

top_is_none : (sort : Sort) → is_of sort TopValue ≡ false
top_is_none IntSort = refl
top_is_none LongSort = refl
top_is_none Reference = refl

-- past the last local
pub load_past : (h : Here) (sort : Sort) (n : ℕ) → length h.state.top.locals ≤ n → illegal h ≡ load h sort n
load_past h sort n past = sym (ap (λ v. when (is_of sort v) (push h v h.state.top.operands) (illegal h)) (item_past h.state.top.locals n TopValue past) ∙ ap (λ b. when b (push h TopValue h.state.top.operands) (illegal h)) (top_is_none sort))

local_count : {S I : Type 0} (sets : Sets I) (heap : HeapView S I) (group : GroupView S I) (c : List Bool) → length (map (value_of sets heap c) (frame_at sets group.top c).locals) ≡ length group.top.locals.conds
local_count sets heap group c = simp length-map

-- a group that ends as a whole, since each of its states breaks a rule
pub illegal_as : {S I : Type 0} (site : Site) (sets : Sets I) (group : GroupView S I) (says : State → PlainOutcome) (outcomes : List (Outcome S I)) → ((heap : HeapView S I) (tree : List (Option (Caller S I))) (c : List Bool) → illegal (here site (state_at sets heap tree group c)) ≡ says (state_at sets heap tree group c)) → Gives site.program.now (illegal_in site.program.now) sets sets group outcomes → Gives site.program.now says sets sets group outcomes
illegal_as site sets group says outcomes law gives heap = GivesAt-before site.program.now sets group heap (λ _ _. illegal_in site.program.now) (λ _ _. says) outcomes (Extends-refl sets) (λ tree h s c t. law heap tree c) (gives heap)

pub load_none : {S I : Type 0} (site : Site) (sets : Sets I) (group : GroupView S I) (sort : Sort) (n : ℕ) (outcomes : List (Outcome S I)) → length group.top.locals.conds ≤ n → Gives site.program.now (illegal_in site.program.now) sets sets group outcomes → Gives site.program.now (λ s. load (here site s) sort n) sets sets group outcomes
load_none site sets group sort n outcomes past gives = illegal_as site sets group (λ s. load (here site s) sort n) outcomes (λ heap tree c.
    let P : ℕ → Type 0 = λ m. m ≤ n in
    load_past (here site (state_at sets heap tree group c)) sort n (subst P (sym (local_count sets heap group c)) past)) gives

increase_past : (h : Here) (n : ℕ) (by : ℤ) → length h.state.top.locals ≤ n → illegal h ≡ increase h n by (item_or h.state.top.locals n TopValue)
increase_past h n by past = sym (ap (increase h n by) (item_past h.state.top.locals n TopValue past))

pub increase_none : {S I : Type 0} (site : Site) (sets : Sets I) (group : GroupView S I) (n : ℕ) (by : ℤ) (outcomes : List (Outcome S I)) → length group.top.locals.conds ≤ n → Gives site.program.now (illegal_in site.program.now) sets sets group outcomes → Gives site.program.now (λ s. increase (here site s) n by (item_or s.top.locals n TopValue)) sets sets group outcomes
increase_none site sets group n by outcomes past gives = illegal_as site sets group (λ s. increase (here site s) n by (item_or s.top.locals n TopValue)) outcomes (λ heap tree c.
    let P : ℕ → Type 0 = λ m. m ≤ n in
    increase_past (here site (state_at sets heap tree group c)) n by (subst P (sym (local_count sets heap group c)) past)) gives

-- no operand
store_empty : (h : Here) (sort : Sort) (n : ℕ) (operands : List Value) → length operands ≡ 0 → illegal h ≡ store h sort n operands
store_empty h sort n [] e = refl
store_empty h sort n (v ∷ vs) e = absurd (omega arith)

pub store_none : {S I : Type 0} (site : Site) (sets : Sets I) (group : GroupView S I) (sort : Sort) (n : ℕ) (outcomes : List (Outcome S I)) → length group.top.stack.conds ≡ 0 → Gives site.program.now (illegal_in site.program.now) sets sets group outcomes → Gives site.program.now (λ s. store (here site s) sort n s.top.operands) sets sets group outcomes
store_none site sets group sort n outcomes none gives = illegal_as site sets group (λ s. store (here site s) sort n s.top.operands) outcomes (λ heap tree c. store_empty (here site (state_at sets heap tree group c)) sort n (state_at sets heap tree group c).top.operands (operand_count sets heap group c ∙ none)) gives

-- the answers of a load
pub loaded_at : {S I : Type 0} (s0 s1 : Sets I) (R : Slot → Answer → Type 0) (sort : Sort) (cond : Conditional Slot S I) (answers : Conditional Answer S I) → ((a : Slot) (b : Answer) → R a b → b ≡ loaded sort a) → IsCond slot_cmp s0 cond → IsCondLifting answer_cmp s1 R (cond_at s0 cond) answers → (c : List Bool) → s0.test cond.scope c ≡ true → answer_at s1 answers c ≡ loaded sort (slot_at s0 cond c)
loaded_at s0 s1 R sort cond answers law v l c t = ap (λ a. unwrap_or a Illegal) (mapped_at answer_cmp s0 s1 R (loaded sort) cond answers law v l c t)

pub loaded_pushes : (sort : Sort) (slot : Slot) → is_push (loaded sort slot) ≡ true
loaded_pushes sort slot = either (slot_is_of sort slot)
  where
    either : (b : Bool) → is_push (if b then Push slot else Illegal) ≡ true
    either true = refl
    either false = refl

loaded_held : {S I : Type 0} (sets : Sets I) (heap : HeapView S I) (c : List Bool) (sort : Sort) (slot : Slot) → is_held sets heap c slot ≡ true → is_answer_held sets heap c (loaded sort slot) ≡ true
loaded_held sets heap c sort slot h = either (slot_is_of sort slot)
  where
    either : (b : Bool) → is_answer_held sets heap c (if b then Push slot else Illegal) ≡ true
    either true = h
    either false = refl

loaded_as : {S I : Type 0} (sets : Sets I) (heap : HeapView S I) (c : List Bool) (h : Here) (operands : List Value) (sort : Sort) (slot : Slot) → answered sets heap c h operands (loaded sort slot) ≡ when (slot_is_of sort slot) (push h (value_of sets heap c slot) operands) (illegal h)
loaded_as sets heap c h operands sort slot = either (slot_is_of sort slot)
  where
    either : (b : Bool) → answered sets heap c h operands (if b then Push slot else Illegal) ≡ when b (push h (value_of sets heap c slot) operands) (illegal h)
    either true = refl
    either false = refl

pub load-gives : {S I : Type 0} (site : Site) {s0 s1 : Sets I} (s2 : Sets I) (group : GroupView S I) (sort : Sort) (n : ℕ) (cond : Conditional Slot S I) (answers : Conditional Answer S I) (outcomes : List (Outcome S I)) → Extends s0 s1 → IsGroup s0 group → Some cond ≡ slice_get group.top.locals.conds n → ((c : List Bool) → s0.test (path_of group) c ≡ true → answer_at s1 answers c ≡ loaded sort (slot_at s0 cond c)) → ((heap : HeapView S I) → AreHeld s1 heap (path_of group) answers → GivesAt site.program.now (answered_by site 0 s1 answers) s1 s2 group outcomes heap) → Gives site.program.now (λ s. load (here site s) sort n) s0 s2 group outcomes
load-gives site {s0 = s0} {s1 = s1} s2 group sort n cond answers outcomes e v got at gives heap tree h s =
    let p = site.program.now in
    let path : (c : List Bool) → s1.test (path_of group) c ≡ true → s0.test (path_of group) c ≡ true = λ c t. sym (e.test (path_of group) c (IsGroup-path_known s0 group v)) ∙ t in
    let item : (c : List Bool) → slot_at s0 cond c ≡ item_or (slots_at s0 group.top.locals c) n Top = λ c. item_got (slots_at s0 group.top.locals c) n (slot_at s0 cond c) Top (slots_at-get s0 group.top.locals n cond c got) in
    let held : (c : List Bool) → s0.test (path_of group) c ≡ true → is_held s0 heap c (slot_at s0 cond c) ≡ true = λ c t. ap (is_held s0 heap c) (item c) ∙ item_held s0 heap c (slots_at s0 group.top.locals c) n (locals_held p s0 heap tree group s c t) in
    let are_held : AreHeld s1 heap (path_of group) answers = record { held = λ c t. ap (is_answer_held s1 heap c) (at c (path c t)) ∙ loaded_held s1 heap c sort (slot_at s0 cond c) (is_held-extends e heap h c (slot_at s0 cond c) ∙ held c (path c t)) } in
    GivesAt-before p s2 group heap (answered_by site 0 s1 answers) (λ _ _ s. load (here site s) sort n) outcomes e (λ tree h s c t.
    let state = state_at s0 heap tree group c in
    let slot = slot_at s0 cond c in
    let value : value_of s1 heap c slot ≡ item_or state.top.locals n TopValue = value_of-extends e heap h c slot ∙ ap (value_of s0 heap c) (item c) ∙ sym (item_value s0 heap c (slots_at s0 group.top.locals c) n) in
    ap (answered s1 heap c (here site state) state.top.operands) (at c t)
    ∙ loaded_as s1 heap c (here site state) state.top.operands sort slot
    ∙ ap (λ b. when b (push (here site state) (value_of s1 heap c slot) state.top.operands) (illegal (here site state))) (sym (same_sort s1 heap c sort slot))
    ∙ ap (λ v. when (is_of sort v) (push (here site state) v state.top.operands) (illegal (here site state))) value) (gives heap are_held) tree h s

-- ---- an earlier space

pub Gives-before : {S I : Type 0} (site : Site) {s0 s1 : Sets I} (s2 : Sets I) (group : GroupView S I) (says : State → PlainOutcome) (outcomes : List (Outcome S I)) → Extends s0 s1 → Gives site.program.now says s1 s2 group outcomes → Gives site.program.now says s0 s2 group outcomes
Gives-before site s2 group says outcomes e gives heap = GivesAt-before site.program.now s2 group heap (λ _ _. says) (λ _ _. says) outcomes e (λ tree h s c t. refl) (gives heap)
