-- Plain values, stack forms, texts and decodings.
use Rattle.std.specs.Prelude.{List, None, Option, Some, [], codes, negsuc, option_map, pos, ℕ, ◌∷◌, ◌≡◌}
use Rattle.vx_java.specs.FirstObjects.{units_of}
use Rattle.vx_java.specs.Library.{signed_value}
use Rattle.vx_java.specs.Machine.{Int, Long, Null, Value}
use Rattle.vx_java.specs.Operation.{operation_of}
use Rattle.vx_java.specs.StackForms.{lower, upper, values_reordered, words}
use Rattle.vx_java.specs.Step.{utf8_of}
use Rattle.vx_java.specs.Texts.{hash_of, place_of, reversed_onto, text_difference}
use Rattle.vx_java.specs.declared.operation.Operation.{Operation}
use Rattle.vx_java.specs.declared.operation.Operation.TheVariants.{Goto, Increase, Load, NewPrimitives, Refuse, SwitchTable}
use Rattle.vx_java.specs.declared.operation.Shuffle.{Shuffle}
use Rattle.vx_java.specs.declared.operation.Shuffle.TheVariants.{Dup, Dup2, Dup2X1, Dup2X2, DupX1, DupX2, Pop, Pop2, Swap}
use Rattle.vx_opcode.specs.Decode.{instruction_at}
use Rattle.vx_value.specs.Arithmetic.{compare_long_of, int_op_of, long_to_int, narrow_of, shift_int_of, shift_long_of}
use Rattle.vx_value.specs.declared.operation.IntOp.TheVariants.{Add, Div, Mul, Rem, Xor}
use Rattle.vx_value.specs.declared.operation.ShiftOp.TheVariants.{Left, Right, Unsigned}
use Rattle.vx_value.specs.declared.operation.Narrow.TheVariants.{Byte, Char, Short, Bool as BoolOf}
use Rattle.vx_java.specs.declared.operation.Sort.TheVariants.{Long as LongSort}

-- arithmetic of ints and longs, shifts and narrowing
abbrev pub PlainOperations : Type 0
PlainOperations =
    (int_op_of Div (negsuc 2147483647) (negsuc 0) ≡ Some (negsuc 2147483647))
    × (int_op_of Rem (negsuc 6) (pos 2) ≡ Some (negsuc 0))
    × (int_op_of Div (negsuc 6) (pos 2) ≡ Some (negsuc 2))
    × (int_op_of Rem (pos 1) (pos 0) ≡ None)
    × (int_op_of Add (pos 2147483647) (pos 1) ≡ Some (negsuc 2147483647))
    × (int_op_of Mul (pos 65536) (pos 65536) ≡ Some (pos 0))
    × (int_op_of Xor (negsuc 0) (pos 1) ≡ Some (negsuc 1))
    × (shift_int_of Left (pos 1) (pos 33) ≡ pos 2)
    × (shift_int_of Unsigned (negsuc 0) (pos 28) ≡ pos 15)
    × (shift_int_of Right (negsuc 7) (pos 1) ≡ negsuc 3)
    × (shift_long_of Left (pos 1) (negsuc 0) ≡ negsuc 9223372036854775807)
    × (compare_long_of (negsuc 9223372036854775807) (pos 9223372036854775807) ≡ negsuc 0)
    × (narrow_of Byte (pos 200) ≡ negsuc 55)
    × (narrow_of Char (negsuc 0) ≡ pos 65535)
    × (narrow_of Short (pos 32768) ≡ negsuc 32767)
    × (narrow_of BoolOf (pos 2) ≡ pos 0)
    × (long_to_int (pos 4294967295) ≡ negsuc 0)

-- a stack form on operands, the one on top first; none where it cannot be
abbrev pub both_taken : Shuffle → List Value → Option (List Value × List Value) → Option (List Value)
both_taken form upper_values None = None
both_taken form upper_values (Some (lower_values, rest)) = Some (values_reordered form upper_values lower_values rest)

abbrev pub one_taken : Shuffle → Option (List Value × List Value) → Option (List Value)
one_taken form None = None
one_taken form (Some (upper_values, rest)) = both_taken form upper_values (words (lower form) rest)

abbrev pub moved : Shuffle → List Value → Option (List Value)
moved form operands = one_taken form (words (upper form) operands)

abbrev pub a : Value
a = Int (pos 1)

abbrev pub b : Value
b = Int (pos 2)

abbrev pub c : Value
c = Null

abbrev pub l : Value
l = Long (pos 3)

abbrev pub m : Value
m = Long (pos 4)

-- the stack forms by the widths of the values
abbrev pub StackForms : Type 0
StackForms =
    (moved Dup2X2 (m ∷ l ∷ []) ≡ Some (m ∷ l ∷ m ∷ []))
    × (moved Dup2X2 (l ∷ b ∷ a ∷ []) ≡ Some (l ∷ b ∷ a ∷ l ∷ []))
    × (moved Dup2X2 (b ∷ a ∷ l ∷ []) ≡ Some (b ∷ a ∷ l ∷ b ∷ a ∷ []))
    × (moved Dup2X1 (b ∷ a ∷ c ∷ []) ≡ Some (b ∷ a ∷ c ∷ b ∷ a ∷ []))
    × (moved Dup2X1 (b ∷ a ∷ l ∷ []) ≡ None)
    × (moved DupX2 (b ∷ l ∷ []) ≡ Some (b ∷ l ∷ b ∷ []))
    × (moved DupX2 (c ∷ b ∷ a ∷ []) ≡ Some (c ∷ b ∷ a ∷ c ∷ []))
    × (moved DupX1 (b ∷ a ∷ []) ≡ Some (b ∷ a ∷ b ∷ []))
    × (moved Dup (l ∷ []) ≡ None)
    × (moved Dup2 (l ∷ []) ≡ Some (l ∷ l ∷ []))
    × (moved Dup2 (a ∷ l ∷ []) ≡ None)
    × (moved Pop2 (a ∷ b ∷ c ∷ []) ≡ Some (c ∷ []))
    × (moved Pop (l ∷ []) ≡ None)
    × (moved Swap (b ∷ a ∷ c ∷ []) ≡ Some (a ∷ b ∷ c ∷ []))

-- texts: hash code, units of modified UTF-8, reversal with a surrogate pair, comparison, search, numbers, and output in UTF-8
abbrev pub TextValues : Type 0
TextValues =
    (hash_of (codes "ab") ≡ pos 3105)
    × (units_of (0xc0 ∷ 0x80 ∷ 0x41 ∷ 0xe2 ∷ 0x82 ∷ 0xac ∷ []) ≡ 0 ∷ 0x41 ∷ 0x20ac ∷ [])
    × (reversed_onto [] (0x61 ∷ 0xd83d ∷ 0xde00 ∷ 0x62 ∷ []) ≡ 0x62 ∷ 0xd83d ∷ 0xde00 ∷ 0x61 ∷ [])
    × (text_difference (codes "abc") (codes "abd") ≡ negsuc 0)
    × (text_difference (codes "ab") (codes "abcd") ≡ negsuc 1)
    × (place_of 0 (codes "lo") (codes "hello") ≡ pos 3)
    × (place_of 0 [] (codes "x") ≡ pos 0)
    × (signed_value (codes "-12") ≡ Some (negsuc 11))
    × (signed_value (codes "+") ≡ None)
    × (utf8_of (0x41 ∷ 0xe9 ∷ 0x20ac ∷ 0xd83d ∷ 0xde00 ∷ 0xd83d ∷ []) ≡ 0x41 ∷ 0xc3 ∷ 0xa9 ∷ 0xe2 ∷ 0x82 ∷ 0xac ∷ 0xf0 ∷ 0x9f ∷ 0x98 ∷ 0x80 ∷ 0x3f ∷ [])

-- what an instruction does, by its opcode
abbrev pub done_at : List ℕ → Option Operation
done_at code = option_map operation_of (instruction_at code 0)

-- operations of some code: a wide iinc, a long load in a short form, the two jumps, a table switch, a new char array, what is left out, and no instruction
abbrev pub Operations : Type 0
Operations =
    (done_at (0xc4 ∷ 0x84 ∷ 1 ∷ 0 ∷ 0xff ∷ 0xff ∷ []) ≡ Some (Increase 256 (negsuc 0)))
    × (done_at (0x20 ∷ []) ≡ Some (Load LongSort 2))
    × (done_at (0xa7 ∷ 0xff ∷ 0xfe ∷ []) ≡ Some (Goto (negsuc 1)))
    × (done_at (0xc8 ∷ 0 ∷ 1 ∷ 0 ∷ 0 ∷ []) ≡ Some (Goto (pos 65536)))
    × (done_at (0xaa ∷ 0 ∷ 0 ∷ 0 ∷ 0 ∷ 0 ∷ 0 ∷ 9 ∷ 0 ∷ 0 ∷ 0 ∷ 1 ∷ 0 ∷ 0 ∷ 0 ∷ 1 ∷ 0 ∷ 0 ∷ 0 ∷ 2 ∷ []) ≡ Some (SwitchTable (pos 9) (pos 1) (pos 1) 16))
    × (done_at (0xbc ∷ 5 ∷ []) ≡ Some (NewPrimitives 5))
    × (done_at (0xc4 ∷ 0xa9 ∷ 0 ∷ 1 ∷ []) ≡ Some (Refuse 2))
    × (done_at (0xae ∷ []) ≡ Some (Refuse 1))
    × (done_at (0xba ∷ 0 ∷ 1 ∷ 0 ∷ 0 ∷ []) ≡ Some (Refuse 3))
    × (done_at (0xca ∷ []) ≡ None)
