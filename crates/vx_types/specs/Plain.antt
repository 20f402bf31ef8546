-- What operations need and give that no program decides: constants, numbers, jumps (JVMS 4.10.1.9).
use Rattle.std.specs.Prelude.{List, None, Some, [], ◌∷◌}
use Rattle.vx_java.specs.declared.operation.Operation.{Operation}
use Rattle.vx_java.specs.declared.operation.Operation.TheVariants.{Goto, IfInt, IfInts, IfNull, IfSame, InstanceOf, IntArithmetic, IntNarrow, IntNegate, IntShift, IntToLong, LongArithmetic, LongCompare, LongNegate, LongShift, LongToInt, Monitor, Nop, PushInt, PushLong, PushNull, SwitchLookup, SwitchTable}
use Rattle.vx_java.specs.declared.operation.Sort.TheVariants as sort
use Rattle.vx_types.specs.declared.types.Row.{Row}
use Rattle.vx_types.specs.declared.types.Row.TheVariants.{Ends, Takes}
use Rattle.vx_types.specs.declared.types.VerType.{VerType}
use Rattle.vx_types.specs.declared.types.VerType.TheVariants.{Int, Long, Null}
use Rattle.vx_types.specs.declared.types.Want.{Want}
use Rattle.vx_types.specs.declared.types.Want.TheVariants.{OfSort}

-- ---- short forms

abbrev pub int : Want
int = OfSort sort.Int

abbrev pub long : Want
long = OfSort sort.Long

abbrev pub reference : Want
reference = OfSort sort.Reference

-- takes these, the top first, and gives a value
abbrev pub computes : List Want → VerType → Row
computes wanted t = Takes wanted (Some t)

abbrev pub gives : VerType → Row
gives t = computes [] t

-- takes these and gives nothing
abbrev pub takes : List Want → Row
takes wanted = Takes wanted None

-- ---- the table

-- any other operation ends the run
abbrev pub plain_row : Operation → Row
plain_row Nop = takes []
plain_row PushNull = gives Null
plain_row (PushInt n) = gives Int
plain_row (PushLong n) = gives Long
plain_row (IntArithmetic op) = computes (int ∷ int ∷ []) Int
plain_row (LongArithmetic op) = computes (long ∷ long ∷ []) Long
plain_row IntNegate = computes (int ∷ []) Int
plain_row LongNegate = computes (long ∷ []) Long
plain_row (IntShift op) = computes (int ∷ int ∷ []) Int
plain_row (LongShift op) = computes (int ∷ long ∷ []) Long
plain_row IntToLong = computes (int ∷ []) Long
plain_row LongToInt = computes (long ∷ []) Int
plain_row (IntNarrow to) = computes (int ∷ []) Int
plain_row LongCompare = computes (long ∷ long ∷ []) Int
plain_row (IfInt test offset) = takes (int ∷ [])
plain_row (IfInts test offset) = takes (int ∷ int ∷ [])
plain_row (IfSame wanted offset) = takes (reference ∷ reference ∷ [])
plain_row (IfNull wanted offset) = takes (reference ∷ [])
plain_row (Goto offset) = takes []
plain_row (SwitchTable fallback low high first) = takes (int ∷ [])
plain_row (SwitchLookup fallback pairs first) = takes (int ∷ [])
plain_row Monitor = takes (reference ∷ [])
plain_row (InstanceOf i) = computes (reference ∷ []) Int
plain_row _ = Ends
