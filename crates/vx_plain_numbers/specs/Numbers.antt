-- What the instructions of numbers, comparisons and jumps make of plain operands.
use Rattle.std.specs.Int.{w32, w64}
use Rattle.std.specs.Prelude.{Bool, true, false, List, None, Option, Some, codes, not, pos, ℕ, ℤ, ◌==◌}
use Rattle.vx_java.specs.Jumps.{jump, passes}
use Rattle.vx_java.specs.Machine as machine
use Rattle.vx_java.specs.Machine.{go, illegal, push, raise_with}
use Rattle.vx_java.specs.declared.operation.Operation.{Operation}
use Rattle.vx_java.specs.declared.operation.Operation.TheVariants.{IfInt, IfInts, IfNull, IntArithmetic, IntNarrow, IntNegate, IntShift, IntToLong, LongArithmetic, LongCompare, LongNegate, LongShift, LongToInt, SwitchLookup, SwitchTable}
use Rattle.vx_plain.specs.Views.{value_of}
use Rattle.vx_plain.specs.declared.value.Value.{Value}
use Rattle.vx_plain.specs.declared.value.Value.TheVariants.{Int, Long, Null, Ref}
use Rattle.vx_plain_numbers.specs.declared.answer.Answer.{Answer}
use Rattle.vx_plain_numbers.specs.declared.answer.Answer.TheVariants.{ByZero, Illegal, Jump, Pass, Push}
use Rattle.vx_switches.specs.Switches.{pair_jump, table_jump}
use Rattle.vx_value.specs.Arithmetic.{compare_long_of, int_op_of, long_op_of, long_to_int, narrow_of, negation, shift_int_of, shift_long_of}

-- what an answer does at a state, with these operands left
abbrev pub answered : machine.Here → List machine.Value → Answer → machine.Outcome
answered h rest Illegal = illegal h
answered h rest (Push v) = push h (value_of v) rest
answered h rest ByZero = raise_with h "java/lang/ArithmeticException" (codes "/ by zero")
answered h rest (Jump offset) = jump h offset rest
answered h rest Pass = go h rest

-- the jump, or on past the instruction
abbrev pub branch_by : Bool → ℤ → Answer
branch_by true offset = Jump offset
branch_by false offset = Pass

-- ---- one operand

abbrev pub of_int : List ℕ → Operation → ℤ → Answer
of_int code IntNegate a = Push (Int (negation w32 a))
of_int code IntToLong a = Push (Long a)
of_int code (IntNarrow to) a = Push (Int (narrow_of to a))
of_int code (IfInt test offset) a = branch_by (passes test a (pos 0)) offset
of_int code (SwitchTable fallback low high first) key = Jump (table_jump code fallback low high first key)
of_int code (SwitchLookup fallback pairs first) key = Jump (pair_jump code key fallback pairs first)
of_int code _ a = Illegal

abbrev pub of_long : Operation → ℤ → Answer
of_long LongNegate a = Push (Long (negation w64 a))
of_long LongToInt a = Push (Int (long_to_int a))
of_long _ a = Illegal

-- a reference, by whether it is null
abbrev pub of_reference : Operation → (is_null : Bool) → Answer
of_reference (IfNull wanted offset) true = branch_by wanted offset
of_reference (IfNull wanted offset) false = branch_by (not wanted) offset
of_reference _ is_null = Illegal

abbrev pub of_one : List ℕ → Operation → Value → Answer
of_one code operation (Int a) = of_int code operation a
of_one code operation (Long a) = of_long operation a
of_one code operation Null = of_reference operation true
of_one code operation (Ref r) = of_reference operation false
of_one code operation _ = Illegal

-- ---- two operands

-- the value, or a division by zero
abbrev pub int_or : Option ℤ → Answer
int_or (Some n) = Push (Int n)
int_or None = ByZero

abbrev pub long_or : Option ℤ → Answer
long_or (Some n) = Push (Long n)
long_or None = ByZero

abbrev pub of_ints : Operation → ℤ → ℤ → Answer
of_ints (IntArithmetic op) a b = int_or (int_op_of op a b)
of_ints (IntShift op) a n = Push (Int (shift_int_of op a n))
of_ints (IfInts test offset) a b = branch_by (passes test a b) offset
of_ints _ a b = Illegal

abbrev pub of_longs : Operation → ℤ → ℤ → Answer
of_longs (LongArithmetic op) a b = long_or (long_op_of op a b)
of_longs LongCompare a b = Push (Int (compare_long_of a b))
of_longs _ a b = Illegal

-- a long, and an int on top of it
abbrev pub of_mixed : Operation → ℤ → ℤ → Answer
of_mixed (LongShift op) a n = Push (Long (shift_long_of op a n))
of_mixed _ a n = Illegal

-- the top first
abbrev pub of_two : Operation → (upper lower : Value) → Answer
of_two operation (Int b) (Int a) = of_ints operation a b
of_two operation (Long b) (Long a) = of_longs operation a b
of_two operation (Int n) (Long a) = of_mixed operation a n
of_two operation _ _ = Illegal

-- ---- two references

-- whether they are one, where both are references
abbrev pub are_one : (upper lower : Value) → Option Bool
are_one Null Null = Some true
are_one Null (Ref a) = Some false
are_one (Ref b) Null = Some false
are_one (Ref b) (Ref a) = Some (a == b)
are_one _ _ = None

-- a jump where they are one, or where they are not
abbrev pub of_same : (wanted : Bool) → ℤ → Option Bool → Answer
of_same wanted offset None = Illegal
of_same true offset (Some one) = branch_by one offset
of_same false offset (Some one) = branch_by (not one) offset
