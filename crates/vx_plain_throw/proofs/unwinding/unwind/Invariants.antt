use Rattle.vx_plain.specs.Views.{state_of}
use Rattle.vx_plain_throw.proofs.Laws.{IsUnwinding}
use Rattle.vx_plain_throw.proofs.unwinding.unwind.Given as goal

abbrev pub invariant-loop-passed : goal.invariant-loop-passed
invariant-loop-passed l = IsUnwinding l.program (state_of l.initial.state) l.fn.object (state_of l.state) l.thrown l._passed l.depth
