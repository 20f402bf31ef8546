use Rattle.std.proofs.Common.{◌≡◌}
use Rattle.vx_throw.proofs.Flying.{IsFlying}
use Rattle.vx_throw.specs.Flights.{thrown_here}
use Rattle.vx_throw.proofs.throwing.throw.Given as goal

abbrev pub invariant-loop-frame : goal.invariant-loop-frame
invariant-loop-frame g l = (l.callers ≡ l.fn.callers) × IsFlying l.program (g.S.Space.sets l.fn.space) (g.S.Space.sets l.space) l.fn.heap l.heap l.fn.callers l.fn.group (thrown_here l.program (g.S.Space.sets l.fn.space) l.fn.heap l.fn.callers (record { group = l.fn.group; objects = l.fn.thrown })) l._frame l.flight l.outcomes.items.items
