-- What a family is given, for its calls.
use Rattle.std.proofs.Common.{◌≡◌, ℕ, ◌<◌, ◌≤◌, ◌^◌, Bool, true, List, [], ◌∷◌, ◌++◌, sym, ◌∙◌, ap, length, arith, zero, suc}
use Rattle.std.proofs.lemmas.Bool.{eqb-true}
use Rattle.std.specs.Prelude.{Some, slice_get}
use Rattle.vx_value.specs.declared.slot.Slot.{Slot}
use Rattle.vx_value.specs.Slot.{slot_cmp}
use Rattle.vx_space.specs.Sets.{Sets, Extends}
use Rattle.vx_cond.specs.Cond.{Conditional, IsCond}
use Rattle.vx_cond.specs.Row.{Conditionals, IsRow}
use Rattle.vx_cond.specs.Slots.{slot_at, slots_at}
use Rattle.vx_cond.proofs.RowSteps.{slots_at-get}
use Rattle.vx_frame.specs.Frame.{frame_at}
use Rattle.vx_frame.proofs.FrameLaws.{IsFrame-locals, IsFrame-one_scope, IsFrame-stack, frame_at-extends}
use Rattle.vx_group.specs.Group.{GroupView, path_of}
use Rattle.vx_group.proofs.GroupLaws.{IsGroup-extends, IsGroup-one_scope, IsGroup-path_known, IsGroup-top}
use Rattle.vx_heap.specs.Heap.{HeapView, are_held, is_held}
use Rattle.vx_heap.proofs.HeapLaws.{IsHeap-extends}
use Rattle.vx_java.specs.Initialisation.{max_locals}
use Rattle.vx_java.specs.declared.operation.Operation.{Operation}
use Rattle.vx_group_states.specs.Answering.{IsReady, operands_at}
use Rattle.vx_group_states.specs.Answers.{answer_cmp}
use Rattle.vx_group_states.specs.Sites.{HasPast}
use Rattle.vx_group_states.specs.Stands.{frame_held}
use Rattle.vx_group_states.specs.declared.answer.Answer.{Answer}
use Rattle.vx_group_states.specs.declared.site.Site.{Site}
use Rattle.vx_group_states.proofs.AnswerLaws.{operands_at-push}
use Rattle.vx_group_states.proofs.StateLaws.{both_first, both_second, frame_held-extends}
use Rattle.vx_families.specs.Attempts.{IsGiven}
use Rattle.vx_families.specs.Texts.{HasMoreTexts}
use Rattle.vx_families.proofs.MoreTexts.{IsHeap-texts, IsHeapFor-texts, frame_held-texts}
use Rattle.vx_heap.proofs.Written.{allowed_known}

module _ {S I : Type 0} (site : Site) (operation : Operation) (sets : Sets I) (heap : HeapView S I) (group : GroupView S I) (given : IsGiven site operation sets heap group) where
  -- ---- the instruction

  -- there is a position after it
  pub given_past : HasPast site group
  given_past =
      let within = given.at_site.within in
      let short = given.at_site.short in
      omega arith

  pub given_position : group.top.position < 65536
  given_position =
      let within = given.at_site.within in
      let short = given.at_site.short in
      omega arith

  -- ---- the group

  pub given_known : sets.is_known (path_of group) ≡ true
  given_known = IsGroup-path_known sets group given.is_group

  -- as many locals as the code asks for
  pub given_local_count : length group.top.locals.conds ≡ site.code.now.max_locals
  given_local_count = eqb-true _ _ given.shaped ∙ ap max_locals given.at_site.code

  pub given_locals : IsRow slot_cmp sets group.top.locals
  given_locals = IsFrame-locals sets group.top (IsGroup-top sets group given.is_group)

  pub given_locals_scope : group.top.locals.scope ≡ path_of group
  given_locals_scope = IsGroup-one_scope sets group given.is_group

  pub given_stack : IsRow slot_cmp sets group.top.stack
  given_stack = IsFrame-stack sets group.top (IsGroup-top sets group given.is_group)

  pub given_stack_scope : group.top.stack.scope ≡ path_of group
  given_stack_scope = IsFrame-one_scope sets group.top (IsGroup-top sets group given.is_group) ∙ given_locals_scope

  -- ---- what it names is there

  pub given_locals_held : (c : List Bool) → sets.test (path_of group) c ≡ true → are_held sets heap c (slots_at sets group.top.locals c) ≡ true
  given_locals_held c t = both_first (are_held sets heap c (frame_at sets group.top c).locals) _ (given.held c t)

  pub given_operands_held : (c : List Bool) → sets.test (path_of group) c ≡ true → are_held sets heap c (operands_at sets group.top.stack c) ≡ true
  given_operands_held c t = both_second (are_held sets heap c (frame_at sets group.top c).locals) _ (given.held c t)

  -- the local of a place
  pub given_local_held : (n : ℕ) (cond : Conditional Slot S I) → Some cond ≡ slice_get group.top.locals.conds n → (c : List Bool) → sets.test (path_of group) c ≡ true → is_held sets heap c (slot_at sets cond c) ≡ true
  given_local_held n cond e c t = one (slots_at sets group.top.locals c) n (slots_at-get sets group.top.locals n cond c e) (given_locals_held c t)
    where
      one : (slots : List Slot) (n : ℕ) → Some (slot_at sets cond c) ≡ slice_get slots n → are_held sets heap c slots ≡ true → is_held sets heap c (slot_at sets cond c) ≡ true
      one [] n e h = cc
      one (slot ∷ slots) zero e h =
          let same : slot_at sets cond c ≡ slot = cc in
          rw same (both_first (is_held sets heap c slot) _ h)
      one (slot ∷ slots) (suc n) e h = one slots n e (both_second (is_held sets heap c slot) _ h)

  -- the operand on top, and those below it
  pub given_top_held : (below : Conditionals Slot S I) (cond : Conditional Slot S I) → group.top.stack ≡ record below { conds = below.conds ++ cond ∷ [] } → (c : List Bool) → sets.test (path_of group) c ≡ true → is_held sets heap c (slot_at sets cond c) ≡ true
  given_top_held below cond e c t = both_first (is_held sets heap c (slot_at sets cond c)) (are_held sets heap c (operands_at sets below c)) (ap (are_held sets heap c) (sym (ap (λ row. operands_at sets row c) e ∙ operands_at-push sets below cond c)) ∙ given_operands_held c t)

  pub given_below_held : (below : Conditionals Slot S I) (cond : Conditional Slot S I) → group.top.stack ≡ record below { conds = below.conds ++ cond ∷ [] } → (c : List Bool) → sets.test (path_of group) c ≡ true → are_held sets heap c (operands_at sets below c) ≡ true
  given_below_held below cond e c t = both_second (is_held sets heap c (slot_at sets cond c)) (are_held sets heap c (operands_at sets below c)) (ap (are_held sets heap c) (sym (ap (λ row. operands_at sets row c) e ∙ operands_at-push sets below cond c)) ∙ given_operands_held c t)

-- ---- for the calls of vx_group_states

-- answers for operands that are taken off; the length of a group's operands is bounded by its type
pub given_ready : {S I : Type 0} (site : Site) (operation : Operation) (sets : Sets I) (heap : HeapView S I) (group : GroupView S I) (taken : ℕ) (answers : Conditional Answer S I) → IsGiven site operation sets heap group → 0 < taken → taken ≤ length group.top.stack.conds → length group.top.stack.conds < 2 ^ 32 → IsCond answer_cmp sets answers → answers.scope ≡ path_of group → IsReady site sets group taken answers
given_ready site operation sets heap group taken answers given some enough few v scope = record {
  is_group = given.is_group;
  past = given_past site operation sets heap group given;
  enough = enough;
  few = omega (arith, some, few);
  are_answers = v;
  inside = record { inside = λ c t. ap (λ i. sets.test i c) scope ∙ t };
}

-- ---- later

-- over a later space
pub IsGiven-extends : {S I : Type 0} (site : Site) (operation : Operation) {old new : Sets I} (heap : HeapView S I) (group : GroupView S I) → Extends old new → IsGiven site operation old heap group → IsGiven site operation new heap group
IsGiven-extends site operation {old = old} {new = new} heap group e given =
    let path : (c : List Bool) → new.test (path_of group) c ≡ true → old.test (path_of group) c ≡ true = λ c t. sym (e.test (path_of group) c (given_known site operation old heap group given)) ∙ t in
    record {
      bounded = given.bounded;
      at_site = given.at_site;
      is_heap = IsHeap-extends e heap given.is_heap;
      is_for = given.is_for;
      is_group = IsGroup-extends e group given.is_group;
      runs = record { inside = λ c t. e.test heap.allowed c (allowed_known old heap given.is_heap) ∙ given.runs.inside c (path c t) };
      held = λ c t. ap (frame_held new heap c) (frame_at-extends e group.top (IsGroup-top old group given.is_group) c) ∙ frame_held-extends e heap given.is_heap c (frame_at old group.top c) ∙ given.held c (path c t);
      shaped = given.shaped;
    }

-- over a heap with more texts
pub IsGiven-texts : {S I : Type 0} (site : Site) (operation : Operation) (sets : Sets I) (before after : HeapView S I) (group : GroupView S I) → HasMoreTexts before after → IsGiven site operation sets before group → IsGiven site operation sets after group
IsGiven-texts site operation sets before after group m given = record {
  bounded = given.bounded;
  at_site = given.at_site;
  is_heap = IsHeap-texts sets before after m given.is_heap;
  is_for = IsHeapFor-texts site.program.now before after m given.is_for;
  is_group = given.is_group;
  runs = record { inside = λ c t. ap (λ (h : HeapView _ _). sets.test h.allowed c) m.same ∙ given.runs.inside c t };
  held = λ c t. frame_held-texts sets before after m c (frame_at sets group.top c) (given.held c t);
  shaped = given.shaped;
}
