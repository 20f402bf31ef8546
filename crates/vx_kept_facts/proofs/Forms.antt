-- The operand of an instruction has the form that its opcode asks for.
use Rattle.std.proofs.Common.{Bool, List, None, Option, Some, ap, cond, false, length, refl, subst, true, ℕ, pos, ◌+◌, ◌∙◌, ◌≡◌}
use Rattle.std.proofs.lemmas.Option.{same_Some}
use Rattle.std.specs.Prelude.{nat_le, nat_lt, option_and_then}
use Rattle.vx_opcode.specs.Bounds.{lawful_is}
use Rattle.vx_opcode.specs.Decode.{aligned, instruction_at, lookup_at, shaped_at, table_at, whole, wide_at}
use Rattle.vx_opcode.specs.Numbers.{s1, s2, s4, u1, u2, u4}
use Rattle.vx_opcode.specs.Table.{shape_of}
use Rattle.vx_opcode.specs.declared.instruction.Instruction.{Instruction}
use Rattle.vx_opcode.specs.declared.instruction.Operand.{Operand}
use Rattle.vx_opcode.specs.declared.instruction.Operand.TheVariants as operand
use Rattle.vx_opcode.specs.declared.shape.Shape.{Shape}
use Rattle.vx_opcode.specs.declared.shape.Shape.TheVariants as shape

-- an operand is of a shape
abbrev pub is_of_shape : Option Shape → Operand → Bool
is_of_shape (Some shape.Plain) operand.Nothing = true
is_of_shape (Some shape.Byte) (operand.Number n) = true
is_of_shape (Some shape.Short) (operand.Number n) = true
is_of_shape (Some shape.Array) (operand.Number n) = true
is_of_shape (Some shape.Local) (operand.Local n) = true
is_of_shape (Some shape.Increment) (operand.Increment n by) = true
is_of_shape (Some shape.Jump) (operand.Jump n) = true
is_of_shape (Some shape.JumpWide) (operand.Jump n) = true
is_of_shape (Some shape.PoolByte) (operand.Pool i) = true
is_of_shape (Some shape.Pool) (operand.Pool i) = true
is_of_shape (Some shape.Dynamic) (operand.Pool i) = true
is_of_shape (Some shape.Interface) (operand.Interface i slots) = true
is_of_shape (Some shape.Dimensions) (operand.Dimensions i d) = true
is_of_shape (Some shape.Table) (operand.Table fallback low high first) = true
is_of_shape (Some shape.Lookup) (operand.Lookup fallback pairs first) = true
is_of_shape _ _ = false

abbrev pub IsFormed : Instruction → Type 0
IsFormed i = is_of_shape (shape_of i.opcode) i.operand ≡ true

formed_whole : (code : List ℕ) (at op len : ℕ) (o : Operand) (i : Instruction) → whole code at op len o ≡ Some i → is_of_shape (shape_of op) o ≡ true → IsFormed i
formed_whole code at op len o i e fits = by_test (nat_le (at + len) (length code)) e
  where
    by_test : (b : Bool) → cond b (Some (record { opcode = op; length = len; operand = o })) None ≡ Some i → IsFormed i
    by_test true f = subst IsFormed (same_Some (record { opcode = op; length = len; operand = o }) i f) fits
    by_test false f = absurd cc

-- where the shape is known
fits_shape : (op : ℕ) (behind : Shape) (o : Operand) → shape_of op ≡ Some behind → is_of_shape (Some behind) o ≡ true → is_of_shape (shape_of op) o ≡ true
fits_shape op behind o is fits = ap (λ (s : Option Shape). is_of_shape s o) is ∙ fits

formed_table : (code : List ℕ) (at op : ℕ) (i : Instruction) → shape_of op ≡ Some shape.Table → table_at code at op ≡ Some i → IsFormed i
unfolding table_at
formed_table code at op i is e =
    let o = operand.Table (s4 code (aligned at)) (s4 code (aligned at + 4)) (s4 code (aligned at + 8)) (aligned at + 12) in
    formed_whole code at op _ o i (lawful_is (nat_le (aligned at + 12) (length code)) _ i e).1 (fits_shape op shape.Table o is refl)

formed_lookup : (code : List ℕ) (at op : ℕ) (i : Instruction) → shape_of op ≡ Some shape.Lookup → lookup_at code at op ≡ Some i → IsFormed i
unfolding lookup_at
formed_lookup code at op i is e =
    let o = operand.Lookup (s4 code (aligned at)) (u4 code (aligned at + 4)) (aligned at + 8) in
    formed_whole code at op _ o i (lawful_is (nat_le (aligned at + 8) (length code)) _ i e).1 (fits_shape op shape.Lookup o is refl)

formed_wide : (code : List ℕ) (at : ℕ) (i : Instruction) → wide_at code at ≡ Some i → IsFormed i
unfolding wide_at
formed_wide code at i e = by_shape (shape_of (u1 code (at + 1))) refl (lawful_is (nat_lt (at + 1) (length code)) _ i e).1
  where
    by_shape : (behind : Option Shape) → shape_of (u1 code (at + 1)) ≡ behind
        → (elim behind [ Some shape.Local ↦ whole code at (u1 code (at + 1)) 4 (operand.Local (u2 code (at + 2))) | Some shape.Increment ↦ whole code at (u1 code (at + 1)) 6 (operand.Increment (u2 code (at + 2)) (s2 code (at + 4))) | _ ↦ None ]) ≡ Some i
        → IsFormed i
    by_shape (Some shape.Local) is f =
        let o = operand.Local (u2 code (at + 2)) in
        formed_whole code at (u1 code (at + 1)) 4 o i f (fits_shape (u1 code (at + 1)) shape.Local o is refl)
    by_shape (Some shape.Increment) is f =
        let o = operand.Increment (u2 code (at + 2)) (s2 code (at + 4)) in
        formed_whole code at (u1 code (at + 1)) 6 o i f (fits_shape (u1 code (at + 1)) shape.Increment o is refl)
    by_shape _ is f = absurd cc

formed_shaped : (behind : Shape) (code : List ℕ) (at op : ℕ) (i : Instruction) → shape_of op ≡ Some behind → shaped_at behind code at op ≡ Some i → IsFormed i
unfolding shaped_at
formed_shaped shape.Plain code at op i is e = formed_whole code at op 1 operand.Nothing i e (fits_shape op shape.Plain operand.Nothing is refl)
formed_shaped shape.Byte code at op i is e = formed_whole code at op 2 (operand.Number (s1 code (at + 1))) i e (fits_shape op shape.Byte (operand.Number (s1 code (at + 1))) is refl)
formed_shaped shape.Short code at op i is e = formed_whole code at op 3 (operand.Number (s2 code (at + 1))) i e (fits_shape op shape.Short (operand.Number (s2 code (at + 1))) is refl)
formed_shaped shape.PoolByte code at op i is e = formed_whole code at op 2 (operand.Pool (u1 code (at + 1))) i e (fits_shape op shape.PoolByte (operand.Pool (u1 code (at + 1))) is refl)
formed_shaped shape.Pool code at op i is e = formed_whole code at op 3 (operand.Pool (u2 code (at + 1))) i e (fits_shape op shape.Pool (operand.Pool (u2 code (at + 1))) is refl)
formed_shaped shape.Local code at op i is e = formed_whole code at op 2 (operand.Local (u1 code (at + 1))) i e (fits_shape op shape.Local (operand.Local (u1 code (at + 1))) is refl)
formed_shaped shape.Increment code at op i is e = formed_whole code at op 3 (operand.Increment (u1 code (at + 1)) (s1 code (at + 2))) i e (fits_shape op shape.Increment (operand.Increment (u1 code (at + 1)) (s1 code (at + 2))) is refl)
formed_shaped shape.Jump code at op i is e = formed_whole code at op 3 (operand.Jump (s2 code (at + 1))) i e (fits_shape op shape.Jump (operand.Jump (s2 code (at + 1))) is refl)
formed_shaped shape.JumpWide code at op i is e = formed_whole code at op 5 (operand.Jump (s4 code (at + 1))) i e (fits_shape op shape.JumpWide (operand.Jump (s4 code (at + 1))) is refl)
formed_shaped shape.Interface code at op i is e = formed_whole code at op 5 (operand.Interface (u2 code (at + 1)) (u1 code (at + 3))) i (lawful_is _ _ i e).1 (fits_shape op shape.Interface (operand.Interface (u2 code (at + 1)) (u1 code (at + 3))) is refl)
formed_shaped shape.Dynamic code at op i is e = formed_whole code at op 5 (operand.Pool (u2 code (at + 1))) i (lawful_is _ _ i e).1 (fits_shape op shape.Dynamic (operand.Pool (u2 code (at + 1))) is refl)
formed_shaped shape.Array code at op i is e = formed_whole code at op 2 (operand.Number (pos (u1 code (at + 1)))) i (lawful_is _ _ i e).1 (fits_shape op shape.Array (operand.Number (pos (u1 code (at + 1)))) is refl)
formed_shaped shape.Dimensions code at op i is e = formed_whole code at op 4 (operand.Dimensions (u2 code (at + 1)) (u1 code (at + 3))) i e (fits_shape op shape.Dimensions (operand.Dimensions (u2 code (at + 1)) (u1 code (at + 3))) is refl)
formed_shaped shape.Table code at op i is e = formed_table code at op i is e
formed_shaped shape.Lookup code at op i is e = formed_lookup code at op i is e
formed_shaped shape.Wide code at op i is e = formed_wide code at i e

pub formed : (code : List ℕ) (at : ℕ) (i : Instruction) → instruction_at code at ≡ Some i → IsFormed i
unfolding instruction_at
formed code at i e = by_shape (shape_of (u1 code at)) refl (lawful_is (nat_lt at (length code)) _ i e).1
  where
    by_shape : (behind : Option Shape) → shape_of (u1 code at) ≡ behind → option_and_then (λ shape. shaped_at shape code at (u1 code at)) behind ≡ Some i → IsFormed i
    by_shape (Some behind) is e = formed_shaped behind code at (u1 code at) i is e
    by_shape None is e = absurd cc
