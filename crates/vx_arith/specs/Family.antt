-- The instructions of numbers and the jumps, by how many operands they take.
use Rattle.std.specs.Prelude.{Bool, true, false, ◌||◌}
use Rattle.vx_java.specs.declared.operation.Operation.{Operation}
use Rattle.vx_java.specs.declared.operation.Operation.TheVariants.{Goto, IfInt, IfInts, IfNull, IntArithmetic, IntNarrow, IntNegate, IntShift, IntToLong, LongArithmetic, LongCompare, LongNegate, LongShift, LongToInt, Refuse, SwitchLookup, SwitchTable}
use Rattle.vx_value.specs.declared.operation.IntOp.{IntOp}
use Rattle.vx_value.specs.declared.operation.IntOp.TheVariants.{Div, Rem}

-- goto, goto_w
abbrev pub is_goto : Operation → Bool
is_goto (Goto offset) = true
is_goto _ = false

-- a jump to one position, or an instruction that is left out
abbrev pub takes_none : Operation → Bool
takes_none (Goto offset) = true
takes_none (Refuse word) = true
takes_none _ = false

abbrev pub takes_one : Operation → Bool
takes_one IntNegate = true
takes_one LongNegate = true
takes_one IntToLong = true
takes_one LongToInt = true
takes_one (IntNarrow to) = true
takes_one (IfInt test offset) = true
takes_one (IfNull wanted offset) = true
takes_one (SwitchTable fallback low high first) = true
takes_one (SwitchLookup fallback pairs first) = true
takes_one _ = false

abbrev pub takes_two : Operation → Bool
takes_two (IntArithmetic op) = true
takes_two (LongArithmetic op) = true
takes_two (IntShift op) = true
takes_two (LongShift op) = true
takes_two LongCompare = true
takes_two (IfInts test offset) = true
takes_two _ = false

-- the family
abbrev pub is_of_numbers : Operation → Bool
is_of_numbers operation = takes_none operation || takes_one operation || takes_two operation

-- a division or a remainder, which raises at a zero divisor
abbrev pub is_quotient : IntOp → Bool
is_quotient Div = true
is_quotient Rem = true
is_quotient _ = false

abbrev pub divides : Operation → Bool
divides (IntArithmetic op) = is_quotient op
divides (LongArithmetic op) = is_quotient op
divides _ = false
