-- The instructions of the family (JVMS 6.5).
use Rattle.std.specs.Prelude.{Bool, true, false}
use Rattle.vx_java.specs.declared.operation.Operation.{Operation}
use Rattle.vx_java.specs.declared.operation.Operation.TheVariants.{CheckCast, GetField, IfSame, InstanceOf, Monitor, New, PutField}

abbrev pub is_of_objects : Operation → Bool
is_of_objects (New i) = true
is_of_objects (GetField i) = true
is_of_objects (PutField i) = true
is_of_objects (CheckCast i) = true
is_of_objects (InstanceOf i) = true
is_of_objects Monitor = true
is_of_objects (IfSame wanted offset) = true
is_of_objects _ = false
