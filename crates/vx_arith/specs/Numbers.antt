-- What the instructions of numbers and the jumps make of plain operands.
use Rattle.std.specs.Int.{w32, w64}
use Rattle.std.specs.Prelude.{Bool, true, false, List, None, Option, Some, not, pos, ℕ, ℤ, ◌+ℤ◌, ◌+◌, [], ◌∷◌}
use Rattle.vx_java.specs.Jumps.{passes}
use Rattle.vx_java.specs.declared.operation.Operation.{Operation}
use Rattle.vx_java.specs.declared.operation.Operation.TheVariants.{Goto, IfInt, IfInts, IfNull, IntArithmetic, IntNarrow, IntNegate, IntShift, IntToLong, LongArithmetic, LongCompare, LongNegate, LongShift, LongToInt, SwitchLookup, SwitchTable}
use Rattle.vx_group_states.specs.declared.answer.Answer.{Answer}
use Rattle.vx_group_states.specs.declared.answer.Answer.TheVariants.{Illegal, Jump, Push}
use Rattle.vx_value.specs.Arithmetic.{compare_long_of, int_op_of, long_op_of, long_to_int, narrow_of, natural, negation, shift_int_of, shift_long_of}
use Rattle.vx_value.specs.declared.slot.Slot.{Slot}
use Rattle.vx_value.specs.declared.slot.Slot.TheVariants.{Int, Long, Null, Ref}
use Rattle.vx_switches.specs.Switches.{pair_jump, table_jump}
use Rattle.vx_arith.specs.declared.spot.Spot.{Spot}

-- ---- positions

-- a jump is relative to the opcode
abbrev pub target_of : Spot → ℤ → ℕ
target_of spot offset = natural (pos spot.position +ℤ offset)

-- the position to which a jump leads that takes no operand
abbrev pub goto_target : Spot → Operation → ℕ
goto_target spot (Goto offset) = target_of spot offset
goto_target spot _ = 0

abbrev pub jump_by : Spot → ℤ → Answer
jump_by spot offset = Jump (target_of spot offset)

-- the jump, or on past the instruction
abbrev pub branch_by : Spot → Bool → ℤ → Answer
branch_by spot true offset = jump_by spot offset
branch_by spot false offset = Jump (spot.position + spot.size)

-- ---- one operand

abbrev pub of_int : Spot → Operation → ℤ → Answer
of_int spot IntNegate a = Push (Int (negation w32 a))
of_int spot IntToLong a = Push (Long a)
of_int spot (IntNarrow to) a = Push (Int (narrow_of to a))
of_int spot (IfInt test offset) a = branch_by spot (passes test a (pos 0)) offset
of_int spot (SwitchTable fallback low high first) key = jump_by spot (table_jump spot.code.now fallback low high first key)
of_int spot (SwitchLookup fallback pairs first) key = jump_by spot (pair_jump spot.code.now key fallback pairs first)
of_int spot _ a = Illegal

abbrev pub of_long : Operation → ℤ → Answer
of_long LongNegate a = Push (Long (negation w64 a))
of_long LongToInt a = Push (Int (long_to_int a))
of_long _ a = Illegal

-- a reference, by whether it is null
abbrev pub of_reference : Spot → Operation → (is_null : Bool) → Answer
of_reference spot (IfNull wanted offset) true = branch_by spot wanted offset
of_reference spot (IfNull wanted offset) false = branch_by spot (not wanted) offset
of_reference spot _ is_null = Illegal

abbrev pub of_one : Spot → Operation → Slot → Answer
of_one spot operation (Int a) = of_int spot operation a
of_one spot operation (Long a) = of_long operation a
of_one spot operation Null = of_reference spot operation true
of_one spot operation (Ref r) = of_reference spot operation false
of_one spot operation _ = Illegal

-- the one on top
abbrev pub of_top : Spot → Operation → List Slot → Answer
of_top spot operation (operand ∷ rest) = of_one spot operation operand
of_top spot operation [] = Illegal

-- ---- two operands

-- the value, or what comes of a zero divisor
abbrev pub int_or : Answer → Option ℤ → Answer
int_or by_zero (Some n) = Push (Int n)
int_or by_zero None = by_zero

abbrev pub long_or : Answer → Option ℤ → Answer
long_or by_zero (Some n) = Push (Long n)
long_or by_zero None = by_zero

abbrev pub of_ints : Spot → (by_zero : Answer) → Operation → ℤ → ℤ → Answer
of_ints spot by_zero (IntArithmetic op) a b = int_or by_zero (int_op_of op a b)
of_ints spot by_zero (IntShift op) a n = Push (Int (shift_int_of op a n))
of_ints spot by_zero (IfInts test offset) a b = branch_by spot (passes test a b) offset
of_ints spot by_zero _ a b = Illegal

abbrev pub of_longs : (by_zero : Answer) → Operation → ℤ → ℤ → Answer
of_longs by_zero (LongArithmetic op) a b = long_or by_zero (long_op_of op a b)
of_longs by_zero LongCompare a b = Push (Int (compare_long_of a b))
of_longs by_zero _ a b = Illegal

-- a long, and an int on top of it
abbrev pub of_mixed : Operation → ℤ → ℤ → Answer
of_mixed (LongShift op) a n = Push (Long (shift_long_of op a n))
of_mixed _ a n = Illegal

-- the top first
abbrev pub of_two : Spot → (by_zero : Answer) → Operation → (upper lower : Slot) → Answer
of_two spot by_zero operation (Int b) (Int a) = of_ints spot by_zero operation a b
of_two spot by_zero operation (Long b) (Long a) = of_longs by_zero operation a b
of_two spot by_zero operation (Int n) (Long a) = of_mixed operation a n
of_two spot by_zero operation _ _ = Illegal

-- the two on top
abbrev pub of_top_two : Spot → (by_zero : Answer) → Operation → List Slot → Answer
of_top_two spot by_zero operation (upper ∷ lower ∷ rest) = of_two spot by_zero operation upper lower
of_top_two spot by_zero operation _ = Illegal
