-- The instructions of the family (JVMS 6.5).
use Rattle.std.specs.Prelude.{Bool, true, false}
use Rattle.vx_java.specs.declared.operation.Operation.{Operation}
use Rattle.vx_java.specs.declared.operation.Operation.TheVariants.{Length, LoadElement, NewGrid, NewPrimitives, NewReferences, StoreElement}

abbrev pub is_of_arrays : Operation → Bool
is_of_arrays (NewPrimitives code) = true
is_of_arrays (NewReferences i) = true
is_of_arrays (NewGrid i dimensions) = true
is_of_arrays (LoadElement element) = true
is_of_arrays (StoreElement element) = true
is_of_arrays Length = true
is_of_arrays _ = false
