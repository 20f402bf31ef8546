use Rattle.std.proofs.Common.{◌≡◌, ◌++◌, drop}
use Rattle.vx_java.specs.Calls.{in_locals}
use Rattle.vx_plain.specs.Views.{values_of}
use Rattle.vx_plain_calls.proofs.arguments.in_locals.Given as goal

abbrev pub invariant-loop-value : goal.invariant-loop-value
invariant-loop-value l = values_of l.locals.items ++ in_locals (values_of (drop l.value-index l.values)) ≡ in_locals (values_of l.values)
