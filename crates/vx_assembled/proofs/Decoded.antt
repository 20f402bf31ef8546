-- Bytes that are one instruction, wherever they stand.
use Rattle.std.proofs.Common.{◌≡◌, ℕ, suc, ◌+◌, ◌<◌, ◌≤◌, ◌^◌, ◌%◌, ℤ, pos, negsuc, List, [], ◌++◌, length, slice_index, Bool, true, nat_le, nat_lt, ◌&&◌, Option, Some, None, option_and_then, if◌then◌else◌, FitsSigned, refl, ap, subst, ◌∙◌, arith, mod-eq_of_lt}
use Rattle.std.proofs.lemmas.Bool.{le-leb, lt-ltb, eq-eqb}
use Rattle.std.proofs.lemmas.Int.{to_z-of_z}
use Rattle.std.specs.Int.{w8, w16, w32, cast_signed, cast_unsigned}
use Rattle.byteorder.specs.Endian.{big_bytes}
use Rattle.vx_opcode.specs.declared.instruction.Instruction.{Instruction}
use Rattle.vx_opcode.specs.declared.instruction.Operand.{Operand}
use Rattle.vx_opcode.specs.declared.instruction.Operand.TheVariants as operand
use Rattle.vx_opcode.specs.declared.shape.Shape.{Shape}
use Rattle.vx_opcode.specs.declared.shape.Shape.TheVariants as shape
use Rattle.vx_opcode.specs.Numbers.{u1, u2, s1, s2, s4}
use Rattle.vx_opcode.specs.Table.{shape_of}
use Rattle.vx_opcode.specs.Decode.{whole, lawful, shaped_at, wide_at, instruction_at}
use Rattle.vx_assembled.proofs.Bytes.{Stands, front, behind, within, is_within, byte_there, low_1, low_2, low_4}

-- bytes that are an instruction
pub record Decodes (bytes : List ℕ) (i : Instruction) : Type 0 where
  pub size : length bytes ≡ i.length
  pub some : 0 < i.length
  pub there : (code : List ℕ) (at : ℕ) → Stands code at bytes → instruction_at code at ≡ Some i

abbrev pub made : ℕ → ℕ → Operand → Instruction
made op len o = record { opcode = op; length = len; operand = o }

moved : (code : List ℕ) (n m : ℕ) (text : List ℕ) → n ≡ m → Stands code n text → Stands code m text
moved code n m text e h = subst (λ (k : ℕ). Stands code k text) e h

-- the opcode that stands at a place tells what is behind it
pub by_opcode : (code : List ℕ) (at op : ℕ) (s : Shape) (more : List ℕ) → op < 256 → shape_of op ≡ Some s → Stands code at (big_bytes 1 op ++ more)
    → instruction_at code at ≡ shaped_at s code at op
unfolding instruction_at
by_opcode code at op s more lt is h =
    let byte : slice_index code at ≡ op = byte_there code at (op % 256) more h ∙ mod-eq_of_lt lt in
    let inside : nat_lt at (length code) ≡ true = lt-ltb at (length code) (let w = within code at (suc (length more)) (big_bytes 1 op ++ more) (omega arith) (omega arith) h in omega (arith, w)) in
    ap (λ (b : ℕ). lawful (nat_lt at (length code)) (option_and_then (λ (z : Shape). shaped_at z code at b) (shape_of b))) byte
    ∙ ap (λ (o : Option Shape). lawful (nat_lt at (length code)) (option_and_then (λ (z : Shape). shaped_at z code at op) o)) is
    ∙ ap (λ (t : Bool). lawful t (shaped_at s code at op)) inside

pub is_whole : (code : List ℕ) (at op len : ℕ) (o : Operand) → nat_le (at + len) (length code) ≡ true → whole code at op len o ≡ Some (made op len o)
is_whole code at op len o e = ap (λ (t : Bool). if t then Some (made op len o) else None) e

-- an instruction that lies there, whose operand is known
shaped : (code : List ℕ) (at op len : ℕ) (o p : Operand) (text : List ℕ) → length text ≡ len → 0 < len → Stands code at text → o ≡ p → whole code at op len o ≡ Some (made op len p)
shaped code at op len o p text e some h is =
    ap (λ (z : Operand). whole code at op len z) is ∙ is_whole code at op len p (is_within code at len text e some h)

-- ---- numbers

pub byte_is : (code : List ℕ) (at n : ℕ) → n < 256 → Stands code at (big_bytes 1 n) → u1 code at ≡ n
byte_is code at n lt h = low_1 code at n h ∙ mod-eq_of_lt lt

pub pair_is : (code : List ℕ) (at n : ℕ) → n < 65536 → Stands code at (big_bytes 2 n) → u2 code at ≡ n
pair_is code at n lt h = low_2 code at n h ∙ mod-eq_of_lt lt

-- the lowest bytes of a signed number that fits them
low_8 : (n : ℤ) → FitsSigned w8 n → cast_unsigned w32 n % 256 ≡ cast_unsigned w8 n
low_8 (pos m) fits = omega (arith, fits.sfits)
low_8 (negsuc m) fits = omega (arith, fits.sfits)

low_8-of_16 : (n : ℤ) → FitsSigned w8 n → cast_unsigned w16 n % 256 ≡ cast_unsigned w8 n
low_8-of_16 (pos m) fits = omega (arith, fits.sfits)
low_8-of_16 (negsuc m) fits = omega (arith, fits.sfits)

low_16 : (n : ℤ) → FitsSigned w16 n → cast_unsigned w32 n % 65536 ≡ cast_unsigned w16 n
low_16 (pos m) fits = omega (arith, fits.sfits)
low_16 (negsuc m) fits = omega (arith, fits.sfits)

low_16-of_16 : (n : ℤ) → FitsSigned w16 n → cast_unsigned w16 n % 65536 ≡ cast_unsigned w16 n
low_16-of_16 (pos m) fits = omega (arith, fits.sfits)
low_16-of_16 (negsuc m) fits = omega (arith, fits.sfits)

low_32 : (n : ℤ) → FitsSigned w32 n → cast_unsigned w32 n % 2 ^ 32 ≡ cast_unsigned w32 n
low_32 (pos m) fits = omega (arith, fits.sfits)
low_32 (negsuc m) fits = omega (arith, fits.sfits)

signed_8 : (n : ℤ) → FitsSigned w8 n → cast_signed w8 (cast_unsigned w32 n % 256) ≡ n
signed_8 n fits = ap (cast_signed w8) (low_8 n fits) ∙ to_z-of_z w8 n fits

signed_8-of_16 : (n : ℤ) → FitsSigned w8 n → cast_signed w8 (cast_unsigned w16 n % 256) ≡ n
signed_8-of_16 n fits = ap (cast_signed w8) (low_8-of_16 n fits) ∙ to_z-of_z w8 n fits

signed_16 : (n : ℤ) → FitsSigned w16 n → cast_signed w16 (cast_unsigned w32 n % 65536) ≡ n
signed_16 n fits = ap (cast_signed w16) (low_16 n fits) ∙ to_z-of_z w16 n fits

signed_16-of_16 : (n : ℤ) → FitsSigned w16 n → cast_signed w16 (cast_unsigned w16 n % 65536) ≡ n
signed_16-of_16 n fits = ap (cast_signed w16) (low_16-of_16 n fits) ∙ to_z-of_z w16 n fits

pub signed_32 : (n : ℤ) → FitsSigned w32 n → cast_signed w32 (cast_unsigned w32 n % 2 ^ 32) ≡ n
signed_32 n fits = ap (cast_signed w32) (low_32 n fits) ∙ to_z-of_z w32 n fits

signed_byte : (code : List ℕ) (at : ℕ) (n : ℤ) → FitsSigned w8 n → Stands code at (big_bytes 1 (cast_unsigned w32 n)) → s1 code at ≡ n
unfolding s1
signed_byte code at n fits h = ap (cast_signed w8) (low_1 code at (cast_unsigned w32 n) h) ∙ signed_8 n fits

added_byte : (code : List ℕ) (at : ℕ) (n : ℤ) → FitsSigned w8 n → Stands code at (big_bytes 1 (cast_unsigned w16 n)) → s1 code at ≡ n
unfolding s1
added_byte code at n fits h = ap (cast_signed w8) (low_1 code at (cast_unsigned w16 n) h) ∙ signed_8-of_16 n fits

signed_pair : (code : List ℕ) (at : ℕ) (n : ℤ) → FitsSigned w16 n → Stands code at (big_bytes 2 (cast_unsigned w32 n)) → s2 code at ≡ n
unfolding s2
signed_pair code at n fits h = ap (cast_signed w16) (low_2 code at (cast_unsigned w32 n) h) ∙ signed_16 n fits

added_pair : (code : List ℕ) (at : ℕ) (n : ℤ) → FitsSigned w16 n → Stands code at (big_bytes 2 (cast_unsigned w16 n)) → s2 code at ≡ n
unfolding s2
added_pair code at n fits h = ap (cast_signed w16) (low_2 code at (cast_unsigned w16 n) h) ∙ signed_16-of_16 n fits

pub signed_four : (code : List ℕ) (at : ℕ) (n : ℤ) → FitsSigned w32 n → Stands code at (big_bytes 4 (cast_unsigned w32 n)) → s4 code at ≡ n
unfolding s4
signed_four code at n fits h = ap (cast_signed w32) (low_4 code at (cast_unsigned w32 n) h) ∙ signed_32 n fits

-- ---- by the shape of the opcode

-- what stands behind the opcode
pub after_opcode : (code : List ℕ) (at op : ℕ) (more : List ℕ) → Stands code at (big_bytes 1 op ++ more) → Stands code (at + 1) more
after_opcode code at op more h = behind code at 1 (big_bytes 1 op) more refl h

pub plain_decodes : (op : ℕ) → op < 256 → shape_of op ≡ Some shape.Plain → Decodes (big_bytes 1 op ++ []) (made op 1 operand.Nothing)
unfolding shaped_at
plain_decodes op lt is = record {
  size = refl;
  some = omega arith;
  there = λ code at h. by_opcode code at op shape.Plain [] lt is h ∙ shaped code at op 1 operand.Nothing operand.Nothing (big_bytes 1 op ++ []) refl (omega arith) h refl;
}

pub byte_decodes : (op : ℕ) (n : ℤ) → op < 256 → shape_of op ≡ Some shape.Byte → FitsSigned w8 n → Decodes (big_bytes 1 op ++ big_bytes 1 (cast_unsigned w32 n)) (made op 2 (operand.Number n))
unfolding shaped_at
byte_decodes op n lt is fits =
    let text = big_bytes 1 op ++ big_bytes 1 (cast_unsigned w32 n) in
    record {
      size = refl;
      some = omega arith;
      there = λ code at h. by_opcode code at op shape.Byte (big_bytes 1 (cast_unsigned w32 n)) lt is h
          ∙ shaped code at op 2 (operand.Number (s1 code (at + 1))) (operand.Number n) text refl (omega arith) h
          (ap operand.Number (signed_byte code (at + 1) n fits (after_opcode code at op (big_bytes 1 (cast_unsigned w32 n)) h)));
    }

pub short_decodes : (op : ℕ) (n : ℤ) → op < 256 → shape_of op ≡ Some shape.Short → FitsSigned w16 n → Decodes (big_bytes 1 op ++ big_bytes 2 (cast_unsigned w32 n)) (made op 3 (operand.Number n))
unfolding shaped_at
short_decodes op n lt is fits =
    let text = big_bytes 1 op ++ big_bytes 2 (cast_unsigned w32 n) in
    record {
      size = refl;
      some = omega arith;
      there = λ code at h. by_opcode code at op shape.Short (big_bytes 2 (cast_unsigned w32 n)) lt is h
          ∙ shaped code at op 3 (operand.Number (s2 code (at + 1))) (operand.Number n) text refl (omega arith) h
          (ap operand.Number (signed_pair code (at + 1) n fits (after_opcode code at op (big_bytes 2 (cast_unsigned w32 n)) h)));
    }

pub near_decodes : (op i : ℕ) → op < 256 → shape_of op ≡ Some shape.PoolByte → i < 256 → Decodes (big_bytes 1 op ++ big_bytes 1 i) (made op 2 (operand.Pool i))
unfolding shaped_at
near_decodes op i lt is few =
    let text = big_bytes 1 op ++ big_bytes 1 i in
    record {
      size = refl;
      some = omega arith;
      there = λ code at h. by_opcode code at op shape.PoolByte (big_bytes 1 i) lt is h
          ∙ shaped code at op 2 (operand.Pool (u1 code (at + 1))) (operand.Pool i) text refl (omega arith) h
          (ap operand.Pool (byte_is code (at + 1) i few (after_opcode code at op (big_bytes 1 i) h)));
    }

pub pool_decodes : (op i : ℕ) → op < 256 → shape_of op ≡ Some shape.Pool → i < 65536 → Decodes (big_bytes 1 op ++ big_bytes 2 i) (made op 3 (operand.Pool i))
unfolding shaped_at
pool_decodes op i lt is few =
    let text = big_bytes 1 op ++ big_bytes 2 i in
    record {
      size = refl;
      some = omega arith;
      there = λ code at h. by_opcode code at op shape.Pool (big_bytes 2 i) lt is h
          ∙ shaped code at op 3 (operand.Pool (u2 code (at + 1))) (operand.Pool i) text refl (omega arith) h
          (ap operand.Pool (pair_is code (at + 1) i few (after_opcode code at op (big_bytes 2 i) h)));
    }

pub local_decodes : (op n : ℕ) → op < 256 → shape_of op ≡ Some shape.Local → n < 256 → Decodes (big_bytes 1 op ++ big_bytes 1 n) (made op 2 (operand.Local n))
unfolding shaped_at
local_decodes op n lt is few =
    let text = big_bytes 1 op ++ big_bytes 1 n in
    record {
      size = refl;
      some = omega arith;
      there = λ code at h. by_opcode code at op shape.Local (big_bytes 1 n) lt is h
          ∙ shaped code at op 2 (operand.Local (u1 code (at + 1))) (operand.Local n) text refl (omega arith) h
          (ap operand.Local (byte_is code (at + 1) n few (after_opcode code at op (big_bytes 1 n) h)));
    }

pub increment_decodes : (op n : ℕ) (k : ℤ) → op < 256 → shape_of op ≡ Some shape.Increment → n < 256 → FitsSigned w8 k
    → Decodes (big_bytes 1 op ++ (big_bytes 1 n ++ big_bytes 1 (cast_unsigned w16 k))) (made op 3 (operand.Increment n k))
unfolding shaped_at
increment_decodes op n k lt is few fits =
    let more = big_bytes 1 n ++ big_bytes 1 (cast_unsigned w16 k) in
    record {
      size = refl;
      some = omega arith;
      there = λ code at h.
          let next = after_opcode code at op more h in
          let local = byte_is code (at + 1) n few (front code (at + 1) (big_bytes 1 n) (big_bytes 1 (cast_unsigned w16 k)) next) in
          let by = added_byte code (at + 2) k fits (moved code (at + 1 + 1) (at + 2) (big_bytes 1 (cast_unsigned w16 k)) (omega arith) (after_opcode code (at + 1) n (big_bytes 1 (cast_unsigned w16 k)) next)) in
          by_opcode code at op shape.Increment more lt is h
          ∙ shaped code at op 3 (operand.Increment (u1 code (at + 1)) (s1 code (at + 2))) (operand.Increment n k) (big_bytes 1 op ++ more) refl (omega arith) h
          (λ i. operand.Increment (local i) (by i));
    }

pub interface_decodes : (op i n : ℕ) → op < 256 → shape_of op ≡ Some shape.Interface → i < 65536 → n < 256
    → Decodes (big_bytes 1 op ++ (big_bytes 2 i ++ (big_bytes 1 n ++ big_bytes 1 0))) (made op 5 (operand.Interface i n))
unfolding shaped_at
interface_decodes op i n lt is few slots =
    let more = big_bytes 2 i ++ (big_bytes 1 n ++ big_bytes 1 0) in
    record {
      size = refl;
      some = omega arith;
      there = λ code at h.
          let next = after_opcode code at op more h in
          let index = pair_is code (at + 1) i few (front code (at + 1) (big_bytes 2 i) (big_bytes 1 n ++ big_bytes 1 0) next) in
          let others = moved code (at + 1 + 2) (at + 3) (big_bytes 1 n ++ big_bytes 1 0) (omega arith) (behind code (at + 1) 2 (big_bytes 2 i) (big_bytes 1 n ++ big_bytes 1 0) refl next) in
          let count = byte_is code (at + 3) n slots (front code (at + 3) (big_bytes 1 n) (big_bytes 1 0) others) in
          let last = byte_is code (at + 4) 0 (omega arith) (moved code (at + 3 + 1) (at + 4) (big_bytes 1 0) (omega arith) (after_opcode code (at + 3) n (big_bytes 1 0) others)) in
          by_opcode code at op shape.Interface more lt is h
          ∙ ap (λ (t : Bool). lawful t (whole code at op 5 (operand.Interface (u2 code (at + 1)) (u1 code (at + 3))))) (eq-eqb (u1 code (at + 4)) 0 last)
          ∙ shaped code at op 5 (operand.Interface (u2 code (at + 1)) (u1 code (at + 3))) (operand.Interface i n) (big_bytes 1 op ++ more) refl (omega arith) h
          (λ j. operand.Interface (index j) (count j));
    }

pub array_decodes : (op k : ℕ) → op < 256 → shape_of op ≡ Some shape.Array → 4 ≤ k → k ≤ 11 → Decodes (big_bytes 1 op ++ big_bytes 1 k) (made op 2 (operand.Number (pos k)))
unfolding shaped_at
array_decodes op k lt is low high =
    let text = big_bytes 1 op ++ big_bytes 1 k in
    record {
      size = refl;
      some = omega arith;
      there = λ code at h.
          let kind = byte_is code (at + 1) k (omega arith) (after_opcode code at op (big_bytes 1 k) h) in
          let test : (nat_le 4 k && nat_le k 11) ≡ true = rw (le-leb 4 k low, le-leb k 11 high) refl in
          by_opcode code at op shape.Array (big_bytes 1 k) lt is h
          ∙ ap (λ (z : ℕ). lawful (nat_le 4 z && nat_le z 11) (whole code at op 2 (operand.Number (pos z)))) kind
          ∙ ap (λ (t : Bool). lawful t (whole code at op 2 (operand.Number (pos k)))) test
          ∙ shaped code at op 2 (operand.Number (pos k)) (operand.Number (pos k)) text refl (omega arith) h refl;
    }

pub dimensions_decodes : (op i n : ℕ) → op < 256 → shape_of op ≡ Some shape.Dimensions → i < 65536 → n < 256
    → Decodes (big_bytes 1 op ++ (big_bytes 2 i ++ big_bytes 1 n)) (made op 4 (operand.Dimensions i n))
unfolding shaped_at
dimensions_decodes op i n lt is few small =
    let more = big_bytes 2 i ++ big_bytes 1 n in
    record {
      size = refl;
      some = omega arith;
      there = λ code at h.
          let next = after_opcode code at op more h in
          let index = pair_is code (at + 1) i few (front code (at + 1) (big_bytes 2 i) (big_bytes 1 n) next) in
          let count = byte_is code (at + 3) n small (moved code (at + 1 + 2) (at + 3) (big_bytes 1 n) (omega arith) (behind code (at + 1) 2 (big_bytes 2 i) (big_bytes 1 n) refl next)) in
          by_opcode code at op shape.Dimensions more lt is h
          ∙ shaped code at op 4 (operand.Dimensions (u2 code (at + 1)) (u1 code (at + 3))) (operand.Dimensions i n) (big_bytes 1 op ++ more) refl (omega arith) h
          (λ j. operand.Dimensions (index j) (count j));
    }

-- ---- wide forms

abbrev widened : List ℕ → ℕ → ℕ → Option Shape → Option Instruction
widened code at op s = elim s [
  | Some shape.Local ↦ whole code at op 4 (operand.Local (u2 code (at + 2)))
  | Some shape.Increment ↦ whole code at op 6 (operand.Increment (u2 code (at + 2)) (s2 code (at + 4)))
  | _ ↦ None
]

by_wide : (code : List ℕ) (at op : ℕ) (more : List ℕ) → op < 256 → Stands code at (big_bytes 1 0xc4 ++ (big_bytes 1 op ++ more))
    → instruction_at code at ≡ widened code at op (shape_of op)
unfolding shaped_at wide_at
by_wide code at op more lt h =
    let next = after_opcode code at 0xc4 (big_bytes 1 op ++ more) h in
    let byte : u1 code (at + 1) ≡ op = byte_there code (at + 1) (op % 256) more next ∙ mod-eq_of_lt lt in
    let inside : nat_lt (at + 1) (length code) ≡ true = lt-ltb (at + 1) (length code) (let w = within code (at + 1) (suc (length more)) (big_bytes 1 op ++ more) (omega arith) (omega arith) next in omega (arith, w)) in
    by_opcode code at 0xc4 shape.Wide (big_bytes 1 op ++ more) (omega arith) refl h
    ∙ ap (λ (t : Bool). lawful t (widened code at (u1 code (at + 1)) (shape_of (u1 code (at + 1))))) inside
    ∙ ap (λ (b : ℕ). widened code at b (shape_of b)) byte

pub wide_local_decodes : (op n : ℕ) → op < 256 → shape_of op ≡ Some shape.Local → n < 65536
    → Decodes (big_bytes 1 0xc4 ++ (big_bytes 1 op ++ big_bytes 2 n)) (made op 4 (operand.Local n))
wide_local_decodes op n lt is few =
    let text = big_bytes 1 0xc4 ++ (big_bytes 1 op ++ big_bytes 2 n) in
    record {
      size = refl;
      some = omega arith;
      there = λ code at h.
          let next = after_opcode code at 0xc4 (big_bytes 1 op ++ big_bytes 2 n) h in
          let local = pair_is code (at + 2) n few (moved code (at + 1 + 1) (at + 2) (big_bytes 2 n) (omega arith) (after_opcode code (at + 1) op (big_bytes 2 n) next)) in
          by_wide code at op (big_bytes 2 n) lt h
          ∙ ap (widened code at op) is
          ∙ shaped code at op 4 (operand.Local (u2 code (at + 2))) (operand.Local n) text refl (omega arith) h (ap operand.Local local);
    }

pub wide_increment_decodes : (op n : ℕ) (k : ℤ) → op < 256 → shape_of op ≡ Some shape.Increment → n < 65536 → FitsSigned w16 k
    → Decodes (big_bytes 1 0xc4 ++ (big_bytes 1 op ++ (big_bytes 2 n ++ big_bytes 2 (cast_unsigned w16 k)))) (made op 6 (operand.Increment n k))
wide_increment_decodes op n k lt is few fits =
    let more = big_bytes 2 n ++ big_bytes 2 (cast_unsigned w16 k) in
    let text = big_bytes 1 0xc4 ++ (big_bytes 1 op ++ more) in
    record {
      size = refl;
      some = omega arith;
      there = λ code at h.
          let next = after_opcode code at 0xc4 (big_bytes 1 op ++ more) h in
          let others = moved code (at + 1 + 1) (at + 2) more (omega arith) (after_opcode code (at + 1) op more next) in
          let local = pair_is code (at + 2) n few (front code (at + 2) (big_bytes 2 n) (big_bytes 2 (cast_unsigned w16 k)) others) in
          let by = added_pair code (at + 4) k fits (moved code (at + 2 + 2) (at + 4) (big_bytes 2 (cast_unsigned w16 k)) (omega arith) (behind code (at + 2) 2 (big_bytes 2 n) (big_bytes 2 (cast_unsigned w16 k)) refl others)) in
          by_wide code at op more lt h
          ∙ ap (widened code at op) is
          ∙ shaped code at op 6 (operand.Increment (u2 code (at + 2)) (s2 code (at + 4))) (operand.Increment n k) text refl (omega arith) h
          (λ j. operand.Increment (local j) (by j));
    }
