use Rattle.std.proofs.Common.{◌≡◌, length}
use Rattle.vx_noted.specs.Leaving.{leaves}
use Rattle.vx_plain.specs.Views.{state_of}
use Rattle.vx_noted.proofs.leaving.pass_all.Given as goal

abbrev pub invariant-passing : goal.invariant-passing
invariant-passing l = leaves l.program (state_of l.initial.state) l.fn.object (state_of l.initial.state).callers ≡ leaves l.program (state_of l.state) l.thrown (state_of l.state).callers

abbrev pub decreases-passing : goal.decreases-passing
decreases-passing l = length (state_of l.state).callers
