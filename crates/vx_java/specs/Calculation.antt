-- Arithmetic of ints and longs (JVMS 6.5): what is computed of the numbers stands with the plain values.
use Rattle.std.specs.Prelude.{List, None, Option, Some, codes, ℤ, ◌∷◌}
use Rattle.vx_java.specs.Machine.{Here, Int, Long, Outcome, Value, illegal, push, raise_with}
use Rattle.vx_value.specs.Arithmetic.{compare_long_of, int_op_of, long_op_of, shift_int_of, shift_long_of}
use Rattle.vx_value.specs.declared.operation.IntOp.{IntOp}
use Rattle.vx_value.specs.declared.operation.ShiftOp.{ShiftOp}

-- iadd, isub, imul, idiv, irem, iand, ior, ixor: the value, or division by zero
abbrev pub int_result : Here → List Value → Option ℤ → Outcome
int_result h rest (Some n) = push h (Int n) rest
int_result h rest None = raise_with h "java/lang/ArithmeticException" (codes "/ by zero")

-- ladd, lsub, lmul, ldiv, lrem, land, lor, lxor
abbrev pub long_result : Here → List Value → Option ℤ → Outcome
long_result h rest (Some n) = push h (Long n) rest
long_result h rest None = raise_with h "java/lang/ArithmeticException" (codes "/ by zero")

abbrev pub int_arithmetic : Here → IntOp → List Value → Outcome
int_arithmetic h op (Int b ∷ Int a ∷ rest) = int_result h rest (int_op_of op a b)
int_arithmetic h op _ = illegal h

abbrev pub long_arithmetic : Here → IntOp → List Value → Outcome
long_arithmetic h op (Long b ∷ Long a ∷ rest) = long_result h rest (long_op_of op a b)
long_arithmetic h op _ = illegal h

-- an operation on the int on top, which gives a value
abbrev pub on_int : Here → (ℤ → Value) → List Value → Outcome
on_int h f (Int a ∷ rest) = push h (f a) rest
on_int h f _ = illegal h

-- an operation on the long on top
abbrev pub on_long : Here → (ℤ → Value) → List Value → Outcome
on_long h f (Long a ∷ rest) = push h (f a) rest
on_long h f _ = illegal h

-- ishl, ishr, iushr
abbrev pub int_shift : Here → ShiftOp → List Value → Outcome
int_shift h op (Int n ∷ Int a ∷ rest) = push h (Int (shift_int_of op a n)) rest
int_shift h op _ = illegal h

-- lshl, lshr, lushr: the distance is an int
abbrev pub long_shift : Here → ShiftOp → List Value → Outcome
long_shift h op (Int n ∷ Long a ∷ rest) = push h (Long (shift_long_of op a n)) rest
long_shift h op _ = illegal h

-- lcmp
abbrev pub long_compare : Here → List Value → Outcome
long_compare h (Long b ∷ Long a ∷ rest) = push h (Int (compare_long_of a b)) rest
long_compare h _ = illegal h
