-- What the arithmetic instructions compute of plain numbers.
use Rattle.std.specs.Prelude.{ℕ, zero, suc, ◌/◌, ◌%◌, ◌^◌, ◌==◌, ℤ, pos, negsuc, int_lt, int_div, int_rem, Bool, true, false, Option, Some, None, if◌then◌else◌}
use Rattle.std.specs.Int.{Width, w8, w16, w32, w64, cast_signed, cast_unsigned, int_wrapping_add, int_wrapping_sub, int_wrapping_mul, int_bit_and, int_bit_or, int_bit_xor, int_shl, int_shr}
use Rattle.vx_value.specs.declared.operation.IntOp.{IntOp}
use Rattle.vx_value.specs.declared.operation.IntOp.TheVariants.{Add, Sub, Mul, Div, Rem, And, Or, Xor}
use Rattle.vx_value.specs.declared.operation.ShiftOp.{ShiftOp}
use Rattle.vx_value.specs.declared.operation.ShiftOp.TheVariants.{Left, Right, Unsigned}
use Rattle.vx_value.specs.declared.operation.Narrow.{Narrow}
use Rattle.vx_value.specs.declared.operation.Narrow.TheVariants.{Byte, Char, Short, Bool as BoolOf}

-- the lowest k bits of a number of the width
abbrev pub low_bits : Width → ℕ → ℤ → ℕ
low_bits w k a = cast_unsigned w a % 2 ^ k

-- a number, or none where the divisor is 0
abbrev pub unless_zero : ℤ → ℤ → Option ℤ
unless_zero (pos zero) quotient = None
unless_zero (pos (suc n)) quotient = Some quotient
unless_zero (negsuc n) quotient = Some quotient

-- iadd, isub, imul, idiv, irem, iand, ior, ixor and their long forms (JVMS 6.5): results wrap, division goes toward zero, and there is no result at a zero divisor
abbrev pub arithmetic : Width → IntOp → ℤ → ℤ → Option ℤ
arithmetic w Add a b = Some (int_wrapping_add w a b)
arithmetic w Sub a b = Some (int_wrapping_sub w a b)
arithmetic w Mul a b = Some (int_wrapping_mul w a b)
arithmetic w Div a b = unless_zero b (cast_signed w (cast_unsigned w (int_div a b)))
arithmetic w Rem a b = unless_zero b (int_rem a b)
arithmetic w And a b = Some (int_bit_and w a b)
arithmetic w Or a b = Some (int_bit_or w a b)
arithmetic w Xor a b = Some (int_bit_xor w a b)

abbrev pub int_op_of : IntOp → ℤ → ℤ → Option ℤ
int_op_of = arithmetic w32

abbrev pub long_op_of : IntOp → ℤ → ℤ → Option ℤ
long_op_of = arithmetic w64

-- ineg, lneg (JVMS 6.5): the least number stays
abbrev pub negation : Width → ℤ → ℤ
negation w a = int_wrapping_sub w (pos 0) a

-- ishl, ishr, iushr and their long forms (JVMS 6.5): the distance is its lowest 5 or 6 bits
abbrev pub shift : Width → ShiftOp → ℤ → ℕ → ℤ
shift w Left a distance = int_shl w a distance
shift w Right a distance = int_shr a distance
shift w Unsigned a distance = cast_signed w (cast_unsigned w a / 2 ^ distance)

abbrev pub shift_int_of : ShiftOp → ℤ → ℤ → ℤ
shift_int_of op a n = shift w32 op a (low_bits w32 5 n)

abbrev pub shift_long_of : ShiftOp → ℤ → ℤ → ℤ
shift_long_of op a n = shift w64 op a (low_bits w32 6 n)

-- lcmp (JVMS 6.5)
abbrev pub compare_long_of : ℤ → ℤ → ℤ
compare_long_of a b = if int_lt a b then negsuc 0 else if int_lt b a then pos 1 else pos 0

-- i2b, i2c, i2s (JVMS 6.5), and for a boolean the lowest bit
abbrev pub narrow_of : Narrow → ℤ → ℤ
narrow_of Byte a = cast_signed w8 (low_bits w32 8 a)
narrow_of Char a = pos (low_bits w32 16 a)
narrow_of Short a = cast_signed w16 (low_bits w32 16 a)
narrow_of BoolOf a = pos (low_bits w32 1 a)

-- l2i (JVMS 6.5)
abbrev pub long_to_int : ℤ → ℤ
long_to_int a = cast_signed w32 (low_bits w64 32 a)

-- a signed number that is not negative, and 0 for a negative one
abbrev pub natural : ℤ → ℕ
natural (pos n) = n
natural (negsuc n) = 0

-- a < 0
abbrev pub negative : ℤ → Bool
negative (pos n) = false
negative (negsuc n) = true

-- a = b
abbrev pub same_int : ℤ → ℤ → Bool
same_int (pos a) (pos b) = a == b
same_int (negsuc a) (negsuc b) = a == b
same_int _ _ = false
