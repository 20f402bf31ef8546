use Rattle.vx_invoke.proofs.Popping.{IsPopping}
use Rattle.vx_invoke.proofs.arguments.pop_values.Given as goal

abbrev pub invariant-loop-value : goal.invariant-loop-value
invariant-loop-value g l = IsPopping l.initial.stack l.stack l.values.items l._value
