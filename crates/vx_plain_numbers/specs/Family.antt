-- The instructions of numbers, comparisons and jumps that take an operand or two numbers, and where they stand.
use Rattle.std.specs.Prelude.{Bool, true, false, ◌<◌}
use Rattle.vx_java.specs.Machine.{State}
use Rattle.vx_java.specs.declared.operation.Operation.{Operation}
use Rattle.vx_java.specs.declared.operation.Operation.TheVariants.{IfInt, IfInts, IfNull, IntArithmetic, IntNarrow, IntNegate, IntShift, IntToLong, LongArithmetic, LongCompare, LongNegate, LongShift, LongToInt, SwitchLookup, SwitchTable}

abbrev pub takes_one : Operation → Bool
takes_one IntNegate = true
takes_one LongNegate = true
takes_one IntToLong = true
takes_one LongToInt = true
takes_one (IntNarrow to) = true
takes_one (IfInt test offset) = true
takes_one (IfNull wanted offset) = true
takes_one (SwitchTable fallback low high first) = true
takes_one (SwitchLookup fallback pairs first) = true
takes_one _ = false

abbrev pub takes_two : Operation → Bool
takes_two (IntArithmetic op) = true
takes_two (LongArithmetic op) = true
takes_two (IntShift op) = true
takes_two (LongShift op) = true
takes_two LongCompare = true
takes_two (IfInts test offset) = true
takes_two _ = false

-- the frame on top stands in code, which has fewer than 65,536 bytes (JVMS 4.7.3)
abbrev pub StandsInCode : State → Type 0
StandsInCode s = s.top.position < 65536
