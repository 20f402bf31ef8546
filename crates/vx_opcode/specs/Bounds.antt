-- An instruction has a byte at least, and lies in the code.
use Rattle.std.specs.Prelude.{◌≡◌, ℕ, ◌+◌, ◌<◌, ◌≤◌, List, length, Option, Some, None, Bool, true, false, nat_lt, nat_le, option_and_then, refl}
use Rattle.std.proofs.Common.{arith, cond, subst}
use Rattle.std.proofs.lemmas.Bool.{leb-true}
use Rattle.std.proofs.lemmas.Option.{same_Some}
use Rattle.vx_opcode.specs.declared.instruction.Operand.{Operand}
use Rattle.vx_opcode.specs.declared.instruction.Operand.TheVariants as operand
use Rattle.vx_opcode.specs.declared.instruction.Instruction.{Instruction}
use Rattle.vx_opcode.specs.declared.shape.Shape.{Shape}
use Rattle.vx_opcode.specs.declared.shape.Shape.TheVariants as shape
use Rattle.vx_opcode.specs.Numbers.{u1, u2, s2}
use Rattle.vx_opcode.specs.Table.{shape_of}
use Rattle.vx_opcode.specs.Decode.{whole, lawful, aligned, table_at, lookup_at, wide_at, shaped_at, instruction_at}

pub record Lies (code : List ℕ) (at : ℕ) (i : Instruction) : Type 0 where
  pub some : 0 < i.length
  pub within : at + i.length ≤ length code

lies_whole : (code : List ℕ) (at op len : ℕ) (o : Operand) (i : Instruction) → 0 < len → whole code at op len o ≡ Some i → Lies code at i
lies_whole code at op len o i some e = by_test (nat_le (at + len) (length code)) refl e
  where
    made : Instruction
    made = record { opcode = op; length = len; operand = o }

    by_test : (b : Bool) → nat_le (at + len) (length code) ≡ b → cond b (Some made) None ≡ Some i → Lies code at i
    by_test true t e = subst (λ (j : Instruction). Lies code at j) (same_Some made i e) (record { some = some; within = leb-true (at + len) (length code) t })
    by_test false t e = absurd cc

pub lawful_is : (test : Bool) (o : Option Instruction) (i : Instruction) → lawful test o ≡ Some i → (test ≡ true) × (o ≡ Some i)
lawful_is true o i e = (refl, e)
lawful_is false o i e = absurd cc

lies_table : (code : List ℕ) (at op : ℕ) (i : Instruction) → table_at code at op ≡ Some i → Lies code at i
unfolding table_at
lies_table code at op i e =
    let inside = lawful_is (nat_le (aligned at + 12) (length code)) _ i e in
    lies_whole code at op _ _ i (omega arith) inside.1

lies_lookup : (code : List ℕ) (at op : ℕ) (i : Instruction) → lookup_at code at op ≡ Some i → Lies code at i
unfolding lookup_at
lies_lookup code at op i e =
    let inside = lawful_is (nat_le (aligned at + 8) (length code)) _ i e in
    lies_whole code at op _ _ i (omega arith) inside.1

lies_wide : (code : List ℕ) (at : ℕ) (i : Instruction) → wide_at code at ≡ Some i → Lies code at i
unfolding wide_at
lies_wide code at i e = by_shape (shape_of (u1 code (at + 1))) (lawful_is (nat_lt (at + 1) (length code)) _ i e).1
  where
    op : ℕ
    op = u1 code (at + 1)

    by_shape : (behind : Option Shape)
        → (elim behind [ Some shape.Local ↦ whole code at op 4 (operand.Local (u2 code (at + 2))) | Some shape.Increment ↦ whole code at op 6 (operand.Increment (u2 code (at + 2)) (s2 code (at + 4))) | _ ↦ None ]) ≡ Some i
        → Lies code at i
    by_shape (Some shape.Local) e = lies_whole code at op 4 _ i (omega arith) e
    by_shape (Some shape.Increment) e = lies_whole code at op 6 _ i (omega arith) e
    by_shape _ e = absurd cc

lies_shaped : (behind : Shape) (code : List ℕ) (at op : ℕ) (i : Instruction) → shaped_at behind code at op ≡ Some i → Lies code at i
unfolding shaped_at
lies_shaped shape.Plain code at op i e = lies_whole code at op 1 _ i (omega arith) e
lies_shaped shape.Byte code at op i e = lies_whole code at op 2 _ i (omega arith) e
lies_shaped shape.Short code at op i e = lies_whole code at op 3 _ i (omega arith) e
lies_shaped shape.PoolByte code at op i e = lies_whole code at op 2 _ i (omega arith) e
lies_shaped shape.Pool code at op i e = lies_whole code at op 3 _ i (omega arith) e
lies_shaped shape.Local code at op i e = lies_whole code at op 2 _ i (omega arith) e
lies_shaped shape.Increment code at op i e = lies_whole code at op 3 _ i (omega arith) e
lies_shaped shape.Jump code at op i e = lies_whole code at op 3 _ i (omega arith) e
lies_shaped shape.JumpWide code at op i e = lies_whole code at op 5 _ i (omega arith) e
lies_shaped shape.Interface code at op i e = lies_whole code at op 5 _ i (omega arith) (lawful_is _ _ i e).1
lies_shaped shape.Dynamic code at op i e = lies_whole code at op 5 _ i (omega arith) (lawful_is _ _ i e).1
lies_shaped shape.Array code at op i e = lies_whole code at op 2 _ i (omega arith) (lawful_is _ _ i e).1
lies_shaped shape.Dimensions code at op i e = lies_whole code at op 4 _ i (omega arith) e
lies_shaped shape.Table code at op i e = lies_table code at op i e
lies_shaped shape.Lookup code at op i e = lies_lookup code at op i e
lies_shaped shape.Wide code at op i e = lies_wide code at i e

pub lies : (code : List ℕ) (at : ℕ) (i : Instruction) → instruction_at code at ≡ Some i → Lies code at i
unfolding instruction_at
lies code at i e = by_shape (shape_of (u1 code at)) (lawful_is (nat_lt at (length code)) _ i e).1
  where
    by_shape : (behind : Option Shape) → option_and_then (λ shape. shaped_at shape code at (u1 code at)) behind ≡ Some i → Lies code at i
    by_shape (Some behind) e = lies_shaped behind code at (u1 code at) i e
    by_shape None e = absurd cc
