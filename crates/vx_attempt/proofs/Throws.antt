-- The operation of athrow's family.
use Rattle.std.proofs.Common.{◌≡◌, true, refl}
use Rattle.vx_java.specs.declared.operation.Operation.{Operation}
use Rattle.vx_java.specs.declared.operation.Operation.TheVariants.{Throw}
use Rattle.vx_throw.specs.Thrown.{is_throw}

pub is_throw_alone : (operation : Operation) → is_throw operation ≡ true → operation ≡ Throw
is_throw_alone Throw h = refl
is_throw_alone _ h = cc h
