-- The instruction that stands at a place of a method's code.
use Rattle.std.specs.Prelude.{ℕ, ℤ, pos, ◌+◌, ◌-◌, ◌*◌, ◌%◌, ◌-ℤ◌, ◌≤◌, List, length, Option, Some, None, Bool, nat_lt, nat_le, ◌==◌, ◌&&◌, if◌then◌else◌, int_le, unsigned_abs, option_and_then}
use Rattle.vx_opcode.specs.declared.instruction.Operand.{Operand}
use Rattle.vx_opcode.specs.declared.instruction.Operand.TheVariants as operand
use Rattle.vx_opcode.specs.declared.instruction.Instruction.{Instruction}
use Rattle.vx_opcode.specs.declared.shape.Shape.{Shape}
use Rattle.vx_opcode.specs.declared.shape.Shape.TheVariants as shape
use Rattle.vx_opcode.specs.Numbers.{u1, u2, u4, s1, s2, s4}
use Rattle.vx_opcode.specs.Table.{shape_of}

-- an instruction, where the code has all its bytes and these are lawful
abbrev pub whole : List ℕ → ℕ → ℕ → ℕ → Operand → Option Instruction
whole code at op len operand = if nat_le (at + len) (length code) then Some (record { opcode = op; length = len; operand = operand }) else None

abbrev pub lawful : Bool → Option Instruction → Option Instruction
lawful test i = if test then i else None

-- the first multiple of four past an opcode
abbrev pub aligned : ℕ → ℕ
aligned at = at + 4 - at % 4

-- how many numbers there are from low to high
abbrev pub count : ℤ → ℤ → ℕ
count low high = if int_le low high then unsigned_abs (high -ℤ low) + 1 else 0

-- a table of jumps: the fallback, the least and the greatest key, and a jump for each key
unfoldable pub table_at : List ℕ → ℕ → ℕ → Option Instruction
table_at code at op =
    let low = s4 code (aligned at + 4) in
    let high = s4 code (aligned at + 8) in
    let first = aligned at + 12 in
    lawful (nat_le first (length code))
    (whole code at op (first - at + 4 * count low high) (operand.Table (s4 code (aligned at)) low high first))

-- pairs of a key and a jump: the fallback, the number of pairs, and the pairs
unfoldable pub lookup_at : List ℕ → ℕ → ℕ → Option Instruction
lookup_at code at op =
    let pairs = u4 code (aligned at + 4) in
    let first = aligned at + 8 in
    lawful (nat_le first (length code))
    (whole code at op (first - at + 8 * pairs) (operand.Lookup (s4 code (aligned at)) pairs first))

-- the wide form of a load, a store or ret, whose local has two bytes, or of iinc, whose number has two too
unfoldable pub wide_at : List ℕ → ℕ → Option Instruction
wide_at code at =
    let op = u1 code (at + 1) in
    lawful (nat_lt (at + 1) (length code))
    (elim (shape_of op) [
      | Some shape.Local ↦ whole code at op 4 (operand.Local (u2 code (at + 2)))
      | Some shape.Increment ↦ whole code at op 6 (operand.Increment (u2 code (at + 2)) (s2 code (at + 4)))
      | _ ↦ None
    ])

unfoldable pub shaped_at : Shape → List ℕ → ℕ → ℕ → Option Instruction
shaped_at shape.Plain code at op = whole code at op 1 operand.Nothing
shaped_at shape.Byte code at op = whole code at op 2 (operand.Number (s1 code (at + 1)))
shaped_at shape.Short code at op = whole code at op 3 (operand.Number (s2 code (at + 1)))
shaped_at shape.PoolByte code at op = whole code at op 2 (operand.Pool (u1 code (at + 1)))
shaped_at shape.Pool code at op = whole code at op 3 (operand.Pool (u2 code (at + 1)))
shaped_at shape.Local code at op = whole code at op 2 (operand.Local (u1 code (at + 1)))
shaped_at shape.Increment code at op = whole code at op 3 (operand.Increment (u1 code (at + 1)) (s1 code (at + 2)))
shaped_at shape.Jump code at op = whole code at op 3 (operand.Jump (s2 code (at + 1)))
shaped_at shape.JumpWide code at op = whole code at op 5 (operand.Jump (s4 code (at + 1)))
shaped_at shape.Interface code at op = lawful (u1 code (at + 4) == 0) (whole code at op 5 (operand.Interface (u2 code (at + 1)) (u1 code (at + 3))))
shaped_at shape.Dynamic code at op = lawful (u2 code (at + 3) == 0) (whole code at op 5 (operand.Pool (u2 code (at + 1))))
shaped_at shape.Array code at op = lawful (nat_le 4 (u1 code (at + 1)) && nat_le (u1 code (at + 1)) 11) (whole code at op 2 (operand.Number (pos (u1 code (at + 1)))))
shaped_at shape.Dimensions code at op = whole code at op 4 (operand.Dimensions (u2 code (at + 1)) (u1 code (at + 3)))
shaped_at shape.Table code at op = table_at code at op
shaped_at shape.Lookup code at op = lookup_at code at op
shaped_at shape.Wide code at op = wide_at code at

-- the whole instruction of the table that stands there, if there is one
unfoldable pub instruction_at : List ℕ → ℕ → Option Instruction
instruction_at code at = lawful (nat_lt at (length code)) (option_and_then (λ shape. shaped_at shape code at (u1 code at)) (shape_of (u1 code at)))

-- the entries of a table lie in the code
abbrev pub TableFits : List ℕ → Operand → Type 0
TableFits code (operand.Table fallback low high first) = first + 4 * count low high ≤ length code
TableFits code (operand.Lookup fallback pairs first) = first + 8 * pairs ≤ length code
TableFits code _ = Unit {0}
