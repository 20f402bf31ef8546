-- From what is made of the operands of a group to the row at each configuration.
use Rattle.std.proofs.Common.{◌≡◌, ℕ, ◌+◌, ◌^◌, ◌<◌, ◌≤◌, Bool, true, List, refl, sym, ◌∙◌, ap, subst, drop, map, length, arith}
use Rattle.std.proofs.lemmas.List.{length-map, length-reverse}
use Rattle.std.specs.Prelude.{Option}
use Rattle.vx_space.specs.Sets.{Sets, Extends}
use Rattle.vx_space.proofs.Spaces.{Extends-refl}
use Rattle.vx_cond.specs.Cond.{Conditional, IsCond}
use Rattle.vx_value.specs.declared.slot.Slot.{Slot}
use Rattle.vx_frame.specs.declared.frame.Frame.{Frame}
use Rattle.vx_group.specs.declared.callers.Caller.{Caller}
use Rattle.vx_group.specs.Group.{GroupView, IsGroup, path_of}
use Rattle.vx_group.proofs.GroupLaws.{IsGroup-path_known}
use Rattle.vx_heap.specs.Heap.{HeapView, value_of}
use Rattle.vx_java.specs.Machine.{illegal_in}
use Rattle.vx_java.specs.declared.operation.Operation.{Operation}
use Rattle.vx_outcome.specs.declared.outcome.Outcome.{Outcome}
use Rattle.vx_group_states.specs.Answering.{AreHeld, IsReady, answer_at, answered, answered_by, is_answer_held, operands_at}
use Rattle.vx_group_states.specs.Answers.{answer_cmp}
use Rattle.vx_group_states.specs.Sites.{Gives, GivesAt, here}
use Rattle.vx_group_states.specs.Stands.{state_at}
use Rattle.vx_group_states.specs.declared.answer.Answer.{Answer}
use Rattle.vx_group_states.specs.declared.site.Site.{Site}
use Rattle.vx_group_states.proofs.EndingLaws.{GivesAt-before}
use Rattle.vx_group_states.proofs.SettleLaws.{stack_scope}
use Rattle.vx_families.specs.Attempts.{row_by}
use Rattle.vx_families.proofs.Answered.{answered-extends}
use Rattle.vx_arith.specs.Family.{divides, takes_one, takes_two}
use Rattle.vx_arith.specs.Numbers.{of_top, of_top_two}
use Rattle.vx_arith.specs.Raising.{IsForZero}
use Rattle.vx_arith.specs.declared.spot.Spot.{Spot}
use Rattle.vx_arith.proofs.HeldLaws.{top_held, top_two_held, zero_held, zero_raises}
use Rattle.vx_arith.proofs.RowLaws.{IsSpotOf, few_row, none_row, top_row, top_two_row}

-- there are as many operands at each configuration
operand_count : {S I : Type 0} (sets : Sets I) (group : GroupView S I) (c : List Bool) → length (operands_at sets group.top.stack c) ≡ length group.top.stack.conds
operand_count sets group c = simp (length-map, length-reverse)

value_count : {S I : Type 0} (sets : Sets I) (heap : HeapView S I) (group : GroupView S I) (c : List Bool) → length (map (value_of sets heap c) (operands_at sets group.top.stack c)) ≡ length group.top.stack.conds
value_count sets heap group c = simp (length-map, length-reverse)

-- a spot was made of the site and the position
pub record IsSpotAt {S I : Type 0} (site : Site) (top : Frame S I) (spot : Spot) : Type 0 where
  pub code : spot.code.now ≡ site.code.now.bytes
  pub position : spot.position ≡ top.position
  pub size : spot.size ≡ site.size

spot_there : {S I : Type 0} (site : Site) (sets : Sets I) (heap : HeapView S I) (tree : List (Option (Caller S I))) (group : GroupView S I) (c : List Bool) (spot : Spot) → IsSpotAt site group.top spot → IsSpotOf (here site (state_at sets heap tree group c)) spot
spot_there site sets heap tree group c spot e = record { code = e.code; position = e.position; size = e.size }

-- what was asked of a frame that is the group's
pub record IsAsked {S I : Type 0} (s0 s1 : Sets I) (site : Site) (top : Frame S I) (spot : Spot) (answers : Conditional Answer S I) (f : List Slot → Answer) (taken : ℕ) : Type 0 where
  pub is_spot : IsSpotAt site top spot
  pub enough : taken ≤ length top.stack.conds
  pub at : (c : List Bool) → s0.test top.stack.scope c ≡ true → answer_at s1 answers c ≡ f (operands_at s0 top.stack c)

asked_group : {S I : Type 0} (s0 s1 : Sets I) (site : Site) (group : GroupView S I) (top : Frame S I) (spot : Spot) (answers : Conditional Answer S I) (f : List Slot → Answer) (taken : ℕ) → top ≡ group.top → IsAsked s0 s1 site top spot answers f taken → IsAsked s0 s1 site group.top spot answers f taken
asked_group {S = S} {I = I} s0 s1 site group top spot answers f taken same asked = let P : Frame S I → Type 0 = λ top. IsAsked s0 s1 site top spot answers f taken in subst P same asked

asked_at : {S I : Type 0} (s0 s1 : Sets I) (site : Site) (group : GroupView S I) (spot : Spot) (answers : Conditional Answer S I) (f : List Slot → Answer) (taken : ℕ) → IsGroup s0 group → IsAsked s0 s1 site group.top spot answers f taken → (c : List Bool) → s0.test (path_of group) c ≡ true → answer_at s1 answers c ≡ f (operands_at s0 group.top.stack c)
asked_at s0 s1 site group spot answers f taken v asked c t = asked.at c (ap (λ i. s0.test i c) (stack_scope s0 group v) ∙ t)

-- answers are ready to be carried out
pub ready_for : {S I : Type 0} (site : Site) (sets : Sets I) (group : GroupView S I) (top : Frame S I) (taken : ℕ) (answers : Conditional Answer S I) → IsGroup sets group → group.top.position + site.size < 65536 → 0 < taken → top ≡ group.top → taken ≤ length top.stack.conds → length group.top.stack.conds < 2 ^ 32 → IsCond answer_cmp sets answers → answers.scope ≡ path_of group → IsReady site sets group taken answers
ready_for {S = S} {I = I} site sets group top taken answers v short some same enough few are_answers scope = let F : Frame S I → Type 0 = λ top. taken ≤ length top.stack.conds in record {
  is_group = v;
  past = omega arith;
  enough = subst F same enough;
  few = omega arith;
  are_answers = are_answers;
  inside = record { inside = λ c t. ap (λ i. sets.test i c) scope ∙ t };
}

-- ---- one operand

pub top-gives : {S I : Type 0} (site : Site) {s0 s1 : Sets I} (s2 : Sets I) (group : GroupView S I) (top : Frame S I) (spot : Spot) (operation : Operation) (answers : Conditional Answer S I) (outcomes : List (Outcome S I)) → Extends s0 s1 → IsGroup s0 group → takes_one operation ≡ true → top ≡ group.top → IsAsked s0 s1 site top spot answers (of_top spot operation) 1 → ((heap : HeapView S I) → AreHeld s1 heap (path_of group) answers → GivesAt site.program.now (answered_by site 1 s1 answers) s1 s2 group outcomes heap) → Gives site.program.now (row_by site operation) s0 s2 group outcomes
top-gives site {s0 = s0} {s1 = s1} s2 group top spot operation answers outcomes e v takes same asked gives heap =
    let there_asked = asked_group s0 s1 site group top spot answers (of_top spot operation) 1 same asked in
    let at = asked_at s0 s1 site group spot answers (of_top spot operation) 1 v there_asked in
    let later : (c : List Bool) → s1.test (path_of group) c ≡ s0.test (path_of group) c = λ c. e.test (path_of group) c (IsGroup-path_known s0 group v) in
    GivesAt-before site.program.now s2 group heap (answered_by site 1 s1 answers) (λ _ _. row_by site operation) outcomes e (λ tree h s c t.
    let operands = operands_at s0 group.top.stack c in
    let there = here site (state_at s0 heap tree group c) in
    let rest = drop 1 (map (value_of s0 heap c) operands) in
    let P : ℕ → Type 0 = λ n. 1 ≤ n in
    ap (answered s1 heap c there rest) (at c t) ∙ answered-extends e heap h c there rest (of_top spot operation operands) ∙ top_row s0 heap c there spot operation operands (spot_there site s0 heap tree group c spot there_asked.is_spot) takes (subst P (sym (operand_count s0 group c)) there_asked.enough))
    (gives heap (record { held = λ c t. ap (is_answer_held s1 heap c) (at c (sym (later c) ∙ t)) ∙ top_held s1 heap c spot operation (operands_at s0 group.top.stack c) }))

pub none-gives : {S I : Type 0} (site : Site) (sets : Sets I) (group : GroupView S I) (top : Frame S I) (operation : Operation) (outcomes : List (Outcome S I)) → takes_one operation ≡ true → top ≡ group.top → length top.stack.conds < 1 → Gives site.program.now (illegal_in site.program.now) sets sets group outcomes → Gives site.program.now (row_by site operation) sets sets group outcomes
none-gives {S = S} {I = I} site sets group top operation outcomes takes same few gives heap =
    let F : Frame S I → Type 0 = λ top. length top.stack.conds < 1 in
    GivesAt-before site.program.now sets group heap (λ _ _. illegal_in site.program.now) (λ _ _. row_by site operation) outcomes (Extends-refl sets) (λ tree h s c t.
    let P : ℕ → Type 0 = λ n. n < 1 in
    none_row (here site (state_at sets heap tree group c)) operation (map (value_of sets heap c) (operands_at sets group.top.stack c)) takes (subst P (sym (value_count sets heap group c)) (subst F same few)))
    (gives heap)

-- ---- two operands

pub top_two-gives : {S I : Type 0} (site : Site) {s0 s1 : Sets I} (s2 : Sets I) (group : GroupView S I) (top : Frame S I) (spot : Spot) (by_zero : Answer) (operation : Operation) (answers : Conditional Answer S I) (outcomes : List (Outcome S I)) → Extends s0 s1 → IsGroup s0 group → takes_two operation ≡ true → top ≡ group.top → IsAsked s0 s1 site top spot answers (of_top_two spot by_zero operation) 2 → ((heap : HeapView S I) → AreHeld s1 heap (path_of group) answers → GivesAt site.program.now (answered_by site 2 s1 answers) s1 s2 group outcomes heap) → (heap : HeapView S I) → IsForZero (divides operation) site.program.now heap by_zero → GivesAt site.program.now (λ _ _. row_by site operation) s0 s2 group outcomes heap
top_two-gives site {s0 = s0} {s1 = s1} s2 group top spot by_zero operation answers outcomes e v takes same asked gives heap zero =
    let there_asked = asked_group s0 s1 site group top spot answers (of_top_two spot by_zero operation) 2 same asked in
    let at = asked_at s0 s1 site group spot answers (of_top_two spot by_zero operation) 2 v there_asked in
    let p = site.program.now in
    let later : (c : List Bool) → s1.test (path_of group) c ≡ s0.test (path_of group) c = λ c. e.test (path_of group) c (IsGroup-path_known s0 group v) in
    GivesAt-before p s2 group heap (answered_by site 2 s1 answers) (λ _ _. row_by site operation) outcomes e (λ tree h s c t.
    let operands = operands_at s0 group.top.stack c in
    let there = here site (state_at s0 heap tree group c) in
    let rest = drop 2 (map (value_of s0 heap c) operands) in
    let P : ℕ → Type 0 = λ n. 2 ≤ n in
    ap (answered s1 heap c there rest) (at c t) ∙ answered-extends e heap h c there rest (of_top_two spot by_zero operation operands) ∙ top_two_row s0 heap c there spot by_zero operation operands (spot_there site s0 heap tree group c spot there_asked.is_spot) (zero_raises heap p (divides operation) by_zero zero) takes (subst P (sym (operand_count s0 group c)) there_asked.enough))
    (gives heap (record { held = λ c t. ap (is_answer_held s1 heap c) (at c (sym (later c) ∙ t)) ∙ top_two_held s1 heap c spot by_zero operation (operands_at s0 group.top.stack c) (zero_held s1 heap c p (divides operation) by_zero zero) }))

pub few-gives : {S I : Type 0} (site : Site) (sets : Sets I) (group : GroupView S I) (top : Frame S I) (operation : Operation) (outcomes : List (Outcome S I)) → takes_two operation ≡ true → top ≡ group.top → length top.stack.conds < 2 → Gives site.program.now (illegal_in site.program.now) sets sets group outcomes → (heap : HeapView S I) → GivesAt site.program.now (λ _ _. row_by site operation) sets sets group outcomes heap
few-gives {S = S} {I = I} site sets group top operation outcomes takes same few gives heap =
    let F : Frame S I → Type 0 = λ top. length top.stack.conds < 2 in
    GivesAt-before site.program.now sets group heap (λ _ _. illegal_in site.program.now) (λ _ _. row_by site operation) outcomes (Extends-refl sets) (λ tree h s c t.
    let P : ℕ → Type 0 = λ n. n < 2 in
    few_row (here site (state_at sets heap tree group c)) operation (map (value_of sets heap c) (operands_at sets group.top.stack c)) takes (subst P (sym (value_count sets heap group c)) (subst F same few)))
    (gives heap)
