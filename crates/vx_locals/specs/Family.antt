-- The instructions of constants and local variables (JVMS 2.6.1, 6.5).
use Rattle.std.specs.Prelude.{Bool, true, false}
use Rattle.vx_java.specs.declared.operation.Operation.{Operation}
use Rattle.vx_java.specs.declared.operation.Operation.TheVariants.{Increase, Load, Nop, PushEntry, PushInt, PushLong, PushNull, Store}

abbrev pub is_of_locals : Operation → Bool
is_of_locals Nop = true
is_of_locals PushNull = true
is_of_locals (PushInt n) = true
is_of_locals (PushLong n) = true
is_of_locals (PushEntry i) = true
is_of_locals (Load sort n) = true
is_of_locals (Store sort n) = true
is_of_locals (Increase n by) = true
is_of_locals _ = false
