-- What the instruction of a position makes of the types before it, step by step.
use Rattle.std.proofs.Common.{Bool, List, None, Option, Some, [], ap, false, refl, sym, true, ℕ, ◌∙◌, ◌≡◌, ◌≤◌, arith, length}
use Rattle.std.proofs.lemmas.Bool.{le-leb, ltb-true}
use Rattle.std.specs.Prelude.{if◌then◌else◌, nat_le, nat_lt, option_and_then, option_map}
use Rattle.vx_class.specs.declared.class_file.Code.{Code}
use Rattle.vx_java.specs.Operation.{operation_of}
use Rattle.vx_java.specs.declared.operation.Operation.{Operation}
use Rattle.vx_link.specs.declared.program.Program.{Program}
use Rattle.vx_opcode.specs.Decode.{instruction_at, lawful, shaped_at}
use Rattle.vx_opcode.specs.Numbers.{u1}
use Rattle.vx_opcode.specs.Table.{shape_of}
use Rattle.vx_opcode.specs.declared.instruction.Instruction.{Instruction}
use Rattle.vx_types.proofs.Tests.{both}
use Rattle.vx_types.specs.Flow.{Next, Refuses, after, flow_by, flow_from, flow_of, settled, stack_size, taken, targets_by, targets_of}
use Rattle.vx_types.specs.Ranked.{IsRanked}
use Rattle.vx_types.specs.Rows.{row_of}
use Rattle.vx_types.specs.Types.{VerState}
use Rattle.vx_types.specs.declared.types.Row.{Row}
use Rattle.vx_types.specs.declared.types.VerType.{VerType}
use Rattle.vx_types.specs.declared.types.Row.TheVariants.{Ends, Leaves}
use Rattle.vx_verify.proofs.Forcing.{refused_untyped}
use Rattle.vx_verify.specs.Forced.{IsForced, IsUntyped}
use Rattle.vx_verify.specs.Inference.{is_last}
use Rattle.vx_verify.specs.Typing.{AreOperands}

-- ---- outside of the code

pub not_below : (a b : ℕ) → b ≤ a → nat_lt a b ≡ false
not_below a b l = by (nat_lt a b) refl
  where
    by : (t : Bool) → nat_lt a b ≡ t → nat_lt a b ≡ false
    by true h = let less = ltb-true a b h in absurd (omega (arith, l, less))
    by false h = h

nothing_there : (code : List ℕ) (at : ℕ) → length code ≤ at → instruction_at code at ≡ None
unfolding instruction_at
nothing_there code at l = ap (λ b. lawful b (option_and_then (λ shape. shaped_at shape code at (u1 code at)) (shape_of (u1 code at)))) (not_below at (length code) l)

pub undecoded_untyped : (p : Program) → IsRanked p → (m : ℕ) (code : Code) (at : ℕ) (s : VerState) → IsForced p m code at s → instruction_at code.bytes at ≡ None → IsUntyped p m code
undecoded_untyped p r m code at s forced none = refused_untyped p r m code at s forced (ap (λ (o : Option Instruction). flow_from p m code at o s) none)

pub outside_untyped : (p : Program) → IsRanked p → (m : ℕ) (code : Code) (at : ℕ) (s : VerState) → IsForced p m code at s → length code.bytes ≤ at → IsUntyped p m code
outside_untyped p r m code at s forced l = undecoded_untyped p r m code at s forced (nothing_there code.bytes at l)

-- ---- an instruction

pub decoded_flow : (p : Program) (m : ℕ) (code : Code) (at size : ℕ) (o : Operation) (i : Instruction) (before : VerState) → instruction_at code.bytes at ≡ Some i → i.length ≡ size → operation_of i ≡ o
    → flow_of p m code at before ≡ flow_by p code at size o (row_of p m o) before
decoded_flow p m code at size o i before is takes does =
    ap (λ (found : Option Instruction). flow_from p m code at found before) is
    ∙ ap (λ n. flow_by p code at n (operation_of i) (row_of p m (operation_of i)) before) takes
    ∙ ap (λ (x : Operation). flow_by p code at size x (row_of p m x) before) does

-- a row that hasn't what it needs
pub lacking_refuses : (p : Program) (code : Code) (at size : ℕ) (o : Operation) (row : Row) (before : VerState) → after p row before ≡ None → flow_by p code at size o row before ≡ Refuses
lacking_refuses p code at size o row before none = ap (settled code (targets_by row (targets_of code.bytes at size o))) none

-- where nothing follows, the state is as it was
last_same : (p : Program) (row : Row) (before made : VerState) → is_last row ≡ true → after p row before ≡ Some made → before ≡ made
last_same p Ends before made h e = cc
last_same p (Leaves wanted) before made h e = by (taken p wanted before.operands) e
  where
    by : (t : Option (List VerType)) → option_map (λ rest. before) t ≡ Some made → before ≡ made
    by None k = absurd cc
    by (Some rest) k = cc
last_same p _ before made h e = absurd cc

last_targets : (row : Row) (targets : List ℕ) → is_last row ≡ true → targets_by row targets ≡ []
last_targets Ends targets h = refl
last_targets (Leaves wanted) targets h = refl
last_targets _ targets h = absurd cc

pub last_flow : (p : Program) (code : Code) (at size : ℕ) (o : Operation) (row : Row) (before made : VerState) → is_last row ≡ true → after p row before ≡ Some made → AreOperands code before
    → flow_by p code at size o row before ≡ Next before []
last_flow p code at size o row before made h e operands =
    ap (settled code (targets_by row (targets_of code.bytes at size o))) (e ∙ ap Some (sym (last_same p row before made h e)))
    ∙ ap (λ (ts : List ℕ). settled code ts (Some before)) (last_targets row (targets_of code.bytes at size o) h)
    ∙ ap (λ b. if b then Next before [] else Refuses)
    (both (nat_le (stack_size before.operands) code.max_stack) true (le-leb (stack_size before.operands) code.max_stack operands.room) refl)
