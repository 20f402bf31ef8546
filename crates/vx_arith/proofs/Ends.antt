-- The answers to what instructions make of the operands at the end of a stack.
use Rattle.std.proofs.Common.{◌≡◌, ℕ, suc, Bool, true, List, sym, ◌∙◌, ap, length}
use Rattle.std.specs.Prelude.{Some, is_some, slice_get}
use Rattle.vx_value.specs.declared.slot.Slot.{Slot}
use Rattle.vx_value.specs.Slot.{slot_cmp}
use Rattle.vx_space.specs.Sets.{Sets}
use Rattle.vx_cond.specs.Cond.{Conditional, IsCondLifting, IsCondLifting2, cond_at}
use Rattle.vx_cond.specs.Row.{Conditionals, IsRow}
use Rattle.vx_cond.proofs.RowSteps.{IsRow-get}
use Rattle.vx_cond.proofs.SideLaws.{cond_at-covers}
use Rattle.vx_java.specs.declared.operation.Operation.{Operation}
use Rattle.vx_group_states.specs.Answering.{answer_at, operands_at}
use Rattle.vx_group_states.specs.Answers.{answer_cmp}
use Rattle.vx_group_states.specs.declared.answer.Answer.{Answer}
use Rattle.vx_group_states.specs.declared.answer.Answer.TheVariants.{Illegal}
use Rattle.vx_group_states.proofs.SettleLaws.{lifting_at}
use Rattle.vx_families.proofs.Tops.{lifted_one, lifted_two, lifting2_at, top_operand, top_operands}
use Rattle.vx_arith.specs.Numbers.{of_one, of_top, of_top_two, of_two}
use Rattle.vx_arith.specs.declared.spot.Spot.{Spot}

-- the answers to what an instruction makes of the operand on top
pub top_answers : {S I : Type 0} (s0 s1 : Sets I) (stack : Conditionals Slot S I) (n : ℕ) (cond : Conditional Slot S I) (spot : Spot) (operation : Operation) (R : Slot → Answer → Type 0) (answers : Conditional Answer S I) → ((s : Slot) (a : Answer) → R s a → a ≡ of_one spot operation s) → IsRow slot_cmp s0 stack → Some cond ≡ slice_get stack.conds n → length stack.conds ≡ suc n → IsCondLifting answer_cmp s1 R (cond_at s0 cond) answers → (c : List Bool) → s0.test stack.scope c ≡ true → answer_at s1 answers c ≡ of_top spot operation (operands_at s0 stack c)
top_answers s0 s1 stack n cond spot operation R answers law v e l lifting c t =
    let got = IsRow-get slot_cmp s0 stack n cond v e in
    let covered : is_some (cond_at s0 cond c) ≡ true = cond_at-covers slot_cmp s0 cond got.0 c ∙ ap (λ i. s0.test i c) got.1 ∙ t in
    lifted_one Illegal R (of_one spot operation) (cond_at s0 cond c) (cond_at s1 answers c) law covered (lifting_at answer_cmp s1 R (cond_at s0 cond) answers lifting c) ∙ ap (of_top spot operation) (sym (top_operand s0 stack n cond c e l))

-- the answers to what it makes of the two on top
pub top_two_answers : {S I : Type 0} (s0 s1 : Sets I) (stack : Conditionals Slot S I) (n : ℕ) (lower upper : Conditional Slot S I) (spot : Spot) (by_zero : Answer) (operation : Operation) (R : Slot → Slot → Answer → Type 0) (answers : Conditional Answer S I) → ((s r : Slot) (a : Answer) → R s r a → a ≡ of_two spot by_zero operation s r) → IsRow slot_cmp s0 stack → Some lower ≡ slice_get stack.conds n → Some upper ≡ slice_get stack.conds (suc n) → length stack.conds ≡ suc (suc n) → IsCondLifting2 answer_cmp s1 R (cond_at s0 upper) (cond_at s0 lower) answers → (c : List Bool) → s0.test stack.scope c ≡ true → answer_at s1 answers c ≡ of_top_two spot by_zero operation (operands_at s0 stack c)
top_two_answers s0 s1 stack n lower upper spot by_zero operation R answers law v e f l lifting c t =
    let below = IsRow-get slot_cmp s0 stack n lower v e in
    let top = IsRow-get slot_cmp s0 stack (suc n) upper v f in
    let covered : is_some (cond_at s0 upper c) ≡ true = cond_at-covers slot_cmp s0 upper top.0 c ∙ ap (λ i. s0.test i c) top.1 ∙ t in
    let covered_below : is_some (cond_at s0 lower c) ≡ true = cond_at-covers slot_cmp s0 lower below.0 c ∙ ap (λ i. s0.test i c) below.1 ∙ t in
    lifted_two Illegal R (of_two spot by_zero operation) (cond_at s0 upper c) (cond_at s0 lower c) (cond_at s1 answers c) law covered covered_below (lifting2_at answer_cmp s1 R (cond_at s0 upper) (cond_at s0 lower) answers lifting c) ∙ ap (of_top_two spot by_zero operation) (sym (top_operands s0 stack n lower upper c e f l))
