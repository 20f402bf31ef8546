-- What an instruction makes is monotone.
use Rattle.std.proofs.Common.{Bool, List, None, Option, Some, ap, arith, false, length, refl, subst, true, ℕ, ◌∙◌, ◌≤◌, ◌≡◌}
use Rattle.std.proofs.lemmas.Bool.Decides.{nat_tests}
use Rattle.std.specs.List.{list_all}
use Rattle.std.specs.Prelude.{if◌then◌else◌, nat_le, nat_lt, ◌&&◌}
use Rattle.vx_class.specs.declared.class_file.Code.{Code}
use Rattle.vx_java.specs.Operation.{operation_of}
use Rattle.vx_link.specs.declared.program.Program.{Program}
use Rattle.vx_opcode.specs.Decode.{instruction_at}
use Rattle.vx_opcode.specs.declared.instruction.Instruction.{Instruction}
use Rattle.vx_types.proofs.Lists.{size_below}
use Rattle.vx_types.proofs.RowLaws.{after_below}
use Rattle.vx_types.proofs.Tests.{both, both_first, both_second}
use Rattle.vx_types.specs.Fits.{StateFits}
use Rattle.vx_types.specs.Flow.{Flow, Next, Refuses, after, flow_from, flow_of, settled, stack_size, targets_by, targets_of}
use Rattle.vx_types.specs.Law.{FlowsBelow}
use Rattle.vx_types.specs.Ranked.{IsRanked}
use Rattle.vx_types.specs.Rows.{row_of}
use Rattle.vx_types.specs.Types.{VerState}

less_than_enough : (a b n : ℕ) → a ≤ b → nat_le b n ≡ true → nat_le a n ≡ true
less_than_enough a b n l h = grind (arith, nat_tests)

-- what settles, settles with fewer operands
pub record SettlesBelow (p : Program) (flow : Flow) (above : VerState) (targets : List ℕ) : Type 0 where
  pub made : VerState
  pub flows : flow ≡ Next made targets
  pub fitting : StateFits p made above

settled_below : (p : Program) (code : Code) (targets leads : List ℕ) (made x above : VerState) → StateFits p made x → settled code leads (Some x) ≡ Next above targets
    → SettlesBelow p (settled code leads (Some made)) above targets
settled_below p code targets leads made x above h e =
    by (nat_le (stack_size x.operands) code.max_stack && list_all (λ t. nat_lt t (length code.bytes)) leads) refl e
  where
    by : (b : Bool) → (nat_le (stack_size x.operands) code.max_stack && list_all (λ t. nat_lt t (length code.bytes)) leads) ≡ b → (if b then Next x leads else Refuses) ≡ Next above targets
        → SettlesBelow p (settled code leads (Some made)) above targets
    by true t e =
        let size = less_than_enough (stack_size made.operands) (stack_size x.operands) code.max_stack (size_below p made.operands x.operands h.operands)
        (both_first (nat_le (stack_size x.operands) code.max_stack) (list_all (λ t. nat_lt t (length code.bytes)) leads) t) in
        let holds = both (nat_le (stack_size made.operands) code.max_stack) (list_all (λ t. nat_lt t (length code.bytes)) leads) size
        (both_second (nat_le (stack_size x.operands) code.max_stack) (list_all (λ t. nat_lt t (length code.bytes)) leads) t) in
        let same_state : x ≡ above = cc in
        let same_targets : leads ≡ targets = cc in
        record {
          made = made;
          flows = ap (λ b. if b then Next made leads else Refuses) holds ∙ ap (Next made) same_targets;
          fitting = subst (λ (s : VerState). StateFits p made s) same_state h;
        }
    by false t e = absurd cc

flow_from_below : (p : Program) → IsRanked p → (m : ℕ) (code : Code) (at : ℕ) (o : Option Instruction) (before other above : VerState) (targets : List ℕ)
    → StateFits p before other → flow_from p m code at o other ≡ Next above targets → SettlesBelow p (flow_from p m code at o before) above targets
flow_from_below p r m code at None before other above targets h e = absurd cc
flow_from_below p r m code at (Some i) before other above targets h e =
    by (after p (row_of p m (operation_of i)) other) refl e
  where
    by : (o : Option VerState) → after p (row_of p m (operation_of i)) other ≡ o
        → settled code (targets_by (row_of p m (operation_of i)) (targets_of code.bytes at i.length (operation_of i))) o ≡ Next above targets
        → SettlesBelow p (flow_from p m code at (Some i) before) above targets
    by None q e = absurd cc
    by (Some x) q e =
        let below = after_below p r (row_of p m (operation_of i)) before other x h q in
        let settles = settled_below p code targets (targets_by (row_of p m (operation_of i)) (targets_of code.bytes at i.length (operation_of i))) below.made x above below.fitting e in
        record {
          made = settles.made;
          flows = ap (settled code (targets_by (row_of p m (operation_of i)) (targets_of code.bytes at i.length (operation_of i)))) below.is ∙ settles.flows;
          fitting = settles.fitting;
        }

pub flow_below : (p : Program) (m : ℕ) (code : Code) (at : ℕ) (before other above : VerState) (targets : List ℕ)
    → IsRanked p → StateFits p before other → flow_of p m code at other ≡ Next above targets → FlowsBelow p m code at before above targets
flow_below p m code at before other above targets r h e =
    let below = flow_from_below p r m code at (instruction_at code.bytes at) before other above targets h e in
    record { made = below.made; flows = below.flows; fitting = below.fitting }
