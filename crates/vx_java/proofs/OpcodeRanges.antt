-- Opcodes that lie in a range, one after the other.
use Rattle.std.proofs.Common.{◌≡◌, ◌≢◌, ℕ, ◌+◌, ◌<◌, ◌≤◌, ap, zero, suc, subst, sym, arith, true, false, inl, inr, ◌⊎◌}
use Rattle.std.proofs.Math.Dec.{eqb}
use Rattle.std.proofs.lemmas.Bool.Decides.{eqb_tells}
use Rattle.vx_java.specs.declared.operation.Operation.{Operation}
use Rattle.vx_java.specs.Operation.{Rule, does, floating, operation_of, rules}
use Rattle.vx_java.specs.declared.operation.Operation.TheVariants.{Nop}
use Rattle.std.proofs.lemmas.Option.{slice_get_past}
use Rattle.std.specs.Prelude.{Option, unwrap_or}
use Rattle.vx_opcode.specs.declared.instruction.Instruction.{Instruction}

-- a fact of so many numbers from one on
abbrev pub Each : (ℕ → Type 0) → (from count : ℕ) → Type 0
Each P from zero = Unit {0}
Each P from (suc n) = P from × Each P (suc from) n

pub at_each : (P : ℕ → Type 0) (from count k : ℕ) → Each P from count → from ≤ k → k < from + count → P k
at_each P from zero k each low high = absurd (omega arith)
at_each P from (suc n) k each low high = by_first (eqb_tells from k) (λ later. at_each P (suc from) n k each.1 later (omega arith))
  where
    by_first : (((eqb from k ≡ true) × (from ≡ k)) ⊎ ((eqb from k ≡ false) × (from ≢ k))) → (suc from ≤ k → P k) → P k
    by_first (inl first) later = subst P first.1 each.0
    by_first (inr others) later = later (omega (arith, others.1))

-- an instruction with another opcode
abbrev pub with_opcode : Instruction → ℕ → Instruction
with_opcode i opcode = record i { opcode = opcode }

-- the operations of an instruction with each opcode of a range
abbrev pub Does : (ℕ → Operation) → Instruction → (from count : ℕ) → Type 0
Does f i from count = Each (λ n. f n ≡ operation_of (with_opcode i n)) from count

pub does_in_range : (f : ℕ → Operation) (i : Instruction) (from count : ℕ) → Does f i from count → from ≤ i.opcode → i.opcode < from + count → f i.opcode ≡ operation_of i
does_in_range f i from count each low high = at_each (λ n. f n ≡ operation_of (with_opcode i n)) from count i.opcode each low high

-- the instructions of floats and doubles
pub floats : (i : Instruction) (from count : ℕ) → Does (λ _. floating) i from count → from ≤ i.opcode → i.opcode < from + count → floating ≡ operation_of i
floats i from count each low high = does_in_range (λ _. floating) i from count each low high

-- an opcode past the table does nothing
pub nothing_past : (i : Instruction) → 202 ≤ i.opcode → Nop ≡ operation_of i
nothing_past i past = ap (λ (rule : Option Rule). (unwrap_or rule (does Nop)) i.operand) (sym (slice_get_past rules i.opcode past))
