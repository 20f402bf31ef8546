-- The calls.
use Rattle.std.specs.Prelude.{Bool, true, false}
use Rattle.vx_java.specs.declared.operation.Operation.{Operation}
use Rattle.vx_java.specs.declared.operation.Operation.TheVariants.{Invoke}

-- an operation is a call
abbrev pub is_invoke : Operation → Bool
is_invoke (Invoke mode i) = true
is_invoke _ = false
