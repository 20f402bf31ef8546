-- Objects that are thrown or locked.
use Rattle.std.specs.Prelude.{List, None, Option, Some, ℕ}
use Rattle.vx_java.specs.Checks.{is_instance_of, is_of, non_null}
use Rattle.vx_java.specs.Machine as machine
use Rattle.vx_java.specs.Machine.{Here, Outcome, Throw, go, illegal, when}
use Rattle.vx_java.specs.declared.operation.Sort.TheVariants.{Reference}
use Rattle.vx_link.specs.ClassNames.{core_class}
use Rattle.vx_plain.specs.declared.value.Value.{Value}
use Rattle.vx_plain.specs.declared.value.Value.TheVariants.{Ref}

-- the object that a value is, if it is one and not null
abbrev pub object_in : Value → Option ℕ
object_in (Ref r) = Some r
object_in v = None

-- a value is thrown
abbrev pub thrown : Here → machine.Value → Outcome
thrown h v = when (is_instance_of h (core_class h.program "java/lang/Throwable") v) (non_null h v (λ r. Throw r h.state)) (illegal h)

-- a value is locked or unlocked, with these operands left
abbrev pub locked : Here → machine.Value → List machine.Value → Outcome
locked h v rest = when (is_of Reference v) (non_null h v (λ r. go h rest)) (illegal h)
