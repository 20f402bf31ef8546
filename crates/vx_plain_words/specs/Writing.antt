-- What is written into local variables.
use Rattle.std.specs.Int.{int_wrapping_add, w32}
use Rattle.std.specs.Prelude.{None, Option, Some, ℕ, ℤ, ◌+◌, slice_set}
use Rattle.vx_java.specs.Locals.{with_locals}
use Rattle.vx_java.specs.Machine as machine
use Rattle.vx_java.specs.Machine.{State, Top}
use Rattle.vx_plain.specs.declared.value.Value.{Value}
use Rattle.vx_plain.specs.declared.value.Value.TheVariants.{Int}

-- the local behind a long can't be read
abbrev pub closed : State → ℕ → machine.Value → State
closed s n (machine.Long a) = with_locals s (slice_set s.top.locals (n + 1) Top)
closed s n v = s

-- the sum of an int and a number
abbrev pub increased : ℤ → Value → Option Value
increased by (Int a) = Some (Int (int_wrapping_add w32 a by))
increased by v = None
