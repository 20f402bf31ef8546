-- What is made of the operands on top of a group, and what comes of it.
use Rattle.std.proofs.Common.{◌≡◌, ℕ, ◌+◌, ◌<◌, ◌≤◌, suc, Bool, true, List, refl, sym, ◌∙◌, ap, subst, drop, map, length}
use Rattle.std.proofs.lemmas.List.{length-map}
use Rattle.std.specs.Prelude.{Option, Some, None, if◌then◌else◌, is_some, slice_get, unwrap_or}
use Rattle.std.specs.declared.cmp.Ordering.{Ordering}
use Rattle.vx_cond.specs.Cond.{Conditional, IsCond, IsCondLifting, IsCondLifting2, IsCondOf, cond_at}
use Rattle.vx_cond.specs.Leaves.{value_within}
use Rattle.vx_cond.proofs.CondLaws.{cond_at-of}
use Rattle.vx_cond.proofs.RowSteps.{IsRow-get}
use Rattle.vx_cond.proofs.SideLaws.{cond_at-covers}
use Rattle.vx_families.specs.Attempts.{AttemptsBy, IsGiven}
use Rattle.vx_families.proofs.Answered.{AttemptsBy-answered}
use Rattle.vx_families.proofs.AttemptLaws.{AttemptsBy-ended}
use Rattle.vx_families.proofs.Given.{given_operands_held}
use Rattle.vx_families.proofs.MoreTexts.{HasMoreTexts-refl}
use Rattle.vx_families.proofs.Tops.{lifted_one, lifted_two, lifting2_at}
use Rattle.vx_frame.proofs.FrameLaws.{IsFrame-stack}
use Rattle.vx_group.specs.declared.callers.Caller.{Caller}
use Rattle.vx_group.specs.Group.{GroupView, IsGroup, path_of}
use Rattle.vx_group.proofs.GroupLaws.{IsGroup-top}
use Rattle.vx_group_states.specs.Answering.{AreHeld, answer_at, answered, answered_by, is_answer_held, operands_at}
use Rattle.vx_group_states.specs.Answers.{answer_cmp}
use Rattle.vx_group_states.specs.Sites.{Gives, GivesAt, here}
use Rattle.vx_group_states.specs.Stands.{state_at}
use Rattle.vx_group_states.specs.declared.answer.Answer.{Answer}
use Rattle.vx_group_states.specs.declared.answer.Answer.TheVariants.{Illegal}
use Rattle.vx_group_states.specs.declared.site.Site.{Site}
use Rattle.vx_group_states.proofs.Operands.{length-operands, operand_there}
use Rattle.vx_group_states.proofs.SettleLaws.{lifting_at, stack_scope}
use Rattle.vx_heap.specs.Heap.{HeapView, are_held, value_of}
use Rattle.vx_heap.proofs.HeapLaws.{are_held-extends}
use Rattle.vx_java.specs.Machine.{Here, Value, illegal, illegal_in}
use Rattle.vx_java.specs.Machine.{Outcome as PlainOutcome}
use Rattle.vx_java.specs.declared.operation.Operation.{Operation}
use Rattle.vx_list.specs.Places.{item_or}
use Rattle.vx_outcome.specs.declared.outcome.Outcome.{Outcome}
use Rattle.vx_space.specs.Sets.{Extends, Sets}
use Rattle.vx_space.proofs.Spaces.{Extends-refl}
use Rattle.vx_value.specs.Slot.{slot_cmp}
use Rattle.vx_value.specs.declared.slot.Slot.{Slot}
use Rattle.vx_value.specs.declared.slot.Slot.TheVariants.{Top}

-- ---- the operand on top and the one below it

module _ {S I : Type 0} (sets : Sets I) (group : GroupView S I) (i : ℕ) (cond : Conditional Slot S I) (v : IsGroup sets group) (e : Some cond ≡ slice_get group.top.stack.conds i) where
  pub operand_cond : IsCond slot_cmp sets cond
  operand_cond = (IsRow-get slot_cmp sets group.top.stack i cond (IsFrame-stack sets group.top (IsGroup-top sets group v)) e).0

  pub operand_scope : cond.scope ≡ path_of group
  operand_scope = (IsRow-get slot_cmp sets group.top.stack i cond (IsFrame-stack sets group.top (IsGroup-top sets group v)) e).1 ∙ stack_scope sets group v

-- ---- what is made of an operand, by its place from the top, and of two

pub one_made : {A S I : Type 0} (none : A) (cmp : A → A → Ordering) (s0 s1 : Sets I) (group : GroupView S I) (i k : ℕ) (cond : Conditional Slot S I) (f : Slot → A) (R : Slot → A → Type 0) (made : Conditional A S I) → ((s : Slot) (a : A) → R s a → a ≡ f s) → IsGroup s0 group → Some cond ≡ slice_get group.top.stack.conds i → k + suc i ≡ length group.top.stack.conds → IsCondLifting cmp s1 R (cond_at s0 cond) made → (c : List Bool) → s0.test (path_of group) c ≡ true → unwrap_or (cond_at s1 made c) none ≡ f (item_or (operands_at s0 group.top.stack c) k Top)
one_made none cmp s0 s1 group i k cond f R made law v e l lifting c t =
    let covered : is_some (cond_at s0 cond c) ≡ true = cond_at-covers slot_cmp s0 cond (operand_cond s0 group i cond v e) c ∙ ap (λ j. s0.test j c) (operand_scope s0 group i cond v e) ∙ t in
    lifted_one none R f (cond_at s0 cond c) (cond_at s1 made c) law covered (lifting_at cmp s1 R (cond_at s0 cond) made lifting c)
    ∙ ap f (sym (operand_there s0 group.top.stack i k cond c e l))

pub two_made : {A S I : Type 0} (none : A) (cmp : A → A → Ordering) (s0 s1 : Sets I) (group : GroupView S I) (i j k m : ℕ) (upper lower : Conditional Slot S I) (f : Slot → Slot → A) (R : Slot → Slot → A → Type 0) (made : Conditional A S I) → ((s r : Slot) (a : A) → R s r a → a ≡ f s r) → IsGroup s0 group → Some upper ≡ slice_get group.top.stack.conds i → Some lower ≡ slice_get group.top.stack.conds j → k + suc i ≡ length group.top.stack.conds → m + suc j ≡ length group.top.stack.conds → IsCondLifting2 cmp s1 R (cond_at s0 upper) (cond_at s0 lower) made → (c : List Bool) → s0.test (path_of group) c ≡ true → unwrap_or (cond_at s1 made c) none ≡ f (item_or (operands_at s0 group.top.stack c) k Top) (item_or (operands_at s0 group.top.stack c) m Top)
two_made none cmp s0 s1 group i j k m upper lower f R made law v e g l n lifting c t =
    let covered : is_some (cond_at s0 upper c) ≡ true = cond_at-covers slot_cmp s0 upper (operand_cond s0 group i upper v e) c ∙ ap (λ x. s0.test x c) (operand_scope s0 group i upper v e) ∙ t in
    let covered_below : is_some (cond_at s0 lower c) ≡ true = cond_at-covers slot_cmp s0 lower (operand_cond s0 group j lower v g) c ∙ ap (λ x. s0.test x c) (operand_scope s0 group j lower v g) ∙ t in
    let up = operand_there s0 group.top.stack i k upper c e l in
    let low = operand_there s0 group.top.stack j m lower c g n in
    lifted_two none R f (cond_at s0 upper c) (cond_at s0 lower c) (cond_at s1 made c) law covered covered_below (lifting2_at cmp s1 R (cond_at s0 upper) (cond_at s0 lower) made lifting c)
    ∙ (λ x. f (sym up x) (sym low x))

-- one answer in all configurations of a path
pub one_answer : {S I : Type 0} (sets : Sets I) (path : I) (a : Answer) (answers : Conditional Answer S I) → IsCondOf answer_cmp sets (value_within sets path (λ _. Some a)) answers → (c : List Bool) → sets.test path c ≡ true → answer_at sets answers c ≡ a
one_answer sets path a answers v c t = ap (λ o. unwrap_or o Illegal) (cond_at-of answer_cmp sets _ answers c v ∙ inside (sets.test path c) t)
  where
    inside : (b : Bool) → b ≡ true → (if b then Some a else None) ≡ Some a
    inside b h = rw h refl

-- ---- the attempt

module _ {S I : Type 0} (site : Site) (operation : Operation) (says : Here → List Value → PlainOutcome) {s0 : Sets I} (heap : HeapView S I) (group : GroupView S I) (given : IsGiven site operation s0 heap group) (taken : ℕ) (outcomes : List (Outcome S I)) where
  -- what the answers say of the operands is what the row says of their values
  pub made-attempts : {s1 s2 : Sets I} (answers : Conditional Answer S I) (f : List Slot → Answer) → taken ≤ length group.top.stack.conds → Extends s0 s1 → Extends s1 s2 → ((c : List Bool) → s0.test (path_of group) c ≡ true → answer_at s1 answers c ≡ f (operands_at s0 group.top.stack c)) → ((sets : Sets I) (c : List Bool) (slots : List Slot) → are_held sets heap c slots ≡ true → is_answer_held sets heap c (f slots) ≡ true) → ((tree : List (Option (Caller S I))) (c : List Bool) (slots : List Slot) → taken ≤ length slots → are_held s0 heap c slots ≡ true → answered s0 heap c (here site (state_at s0 heap tree group c)) (drop taken (map (value_of s0 heap c) slots)) (f slots) ≡ says (here site (state_at s0 heap tree group c)) (map (value_of s0 heap c) slots)) → ((heap : HeapView S I) → AreHeld s1 heap (path_of group) answers → GivesAt site.program.now (answered_by site taken s1 answers) s1 s2 group outcomes heap) → AttemptsBy site (λ s. says (here site s) s.top.operands) s0 s2 heap heap group outcomes
  made-attempts {s1 = s1} {s2 = s2} answers f enough e g at holds law gives =
      let slots : List Bool → List Slot = operands_at s0 group.top.stack in
      let held : (c : List Bool) → s0.test (path_of group) c ≡ true → are_held s0 heap c (slots c) ≡ true = given_operands_held site operation s0 heap group given in
      AttemptsBy-answered site operation (λ s. says (here site s) s.top.operands) heap heap group taken answers (λ c. f (slots c)) outcomes (HasMoreTexts-refl heap) e g given at
      (λ c t. holds s1 c (slots c) (are_held-extends e heap given.is_heap c (slots c) ∙ held c t))
      (λ tree s c t.
      let Q : ℕ → Type 0 = λ n. taken ≤ n in
      law tree c (slots c) (subst Q (sym (length-operands s0 group.top.stack c)) enough) (held c t))
      gives

  -- there are fewer operands
  pub few-attempts : length group.top.stack.conds < taken → ((h : Here) (operands : List Value) → length operands < taken → illegal h ≡ says h operands) → Gives site.program.now (illegal_in site.program.now) s0 s0 group outcomes → AttemptsBy site (λ s. says (here site s) s.top.operands) s0 s0 heap heap group outcomes
  few-attempts few law gives =
      AttemptsBy-ended site operation (λ s. says (here site s) s.top.operands) heap group (illegal_in site.program.now) outcomes (Extends-refl s0) given (λ tree s c t.
      let N : ℕ → Type 0 = λ n. n < taken in
      let count : length (map (value_of s0 heap c) (operands_at s0 group.top.stack c)) ≡ length group.top.stack.conds = simp length-map refl ∙ length-operands s0 group.top.stack c in
      law (here site (state_at s0 heap tree group c)) (map (value_of s0 heap c) (operands_at s0 group.top.stack c)) (subst N (sym count) few))
      gives
