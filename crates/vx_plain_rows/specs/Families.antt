-- Which operations are rows of which family.
use Rattle.std.specs.Prelude.{Bool, false, true}
use Rattle.vx_java.specs.declared.operation.Operation.{Operation}
use Rattle.vx_java.specs.declared.operation.Operation.TheVariants.{CheckCast, GetField, GetStatic, InstanceOf, Invoke, Length, LoadElement, Monitor, New, NewGrid, NewPrimitives, NewReferences, PutField, PutStatic, Return, StoreElement, Throw}

abbrev pub is_of_members : Operation → Bool
is_of_members (Return sort) = true
is_of_members (GetStatic i) = true
is_of_members (PutStatic i) = true
is_of_members (GetField i) = true
is_of_members (PutField i) = true
is_of_members (Invoke mode i) = true
is_of_members _ = false

abbrev pub is_of_objects : Operation → Bool
is_of_objects (LoadElement e) = true
is_of_objects (StoreElement e) = true
is_of_objects (New i) = true
is_of_objects (NewPrimitives number) = true
is_of_objects (NewReferences i) = true
is_of_objects (NewGrid i d) = true
is_of_objects Length = true
is_of_objects Throw = true
is_of_objects Monitor = true
is_of_objects (CheckCast i) = true
is_of_objects (InstanceOf i) = true
is_of_objects _ = false
