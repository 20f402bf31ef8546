use Rattle.vx_noted.proofs.Underway.{leaves_as}
use Rattle.vx_plain.specs.Views.{state_of}
use Rattle.vx_noted.proofs.running.leaves_after.Goals as goal

pub returns-in-Some : goal.returns-in-Some
returns-in-Some c = leaves_as c.args.program.now (state_of c.args.begun.state) c.args.before (state_of c.advance.new.state) _ c.in_ok-advance.ensures (rw c.in-Some.is at c.in_ok-left.ensures)

pub returns-in-None : goal.returns-in-None
returns-in-None c = leaves_as c.args.program.now (state_of c.args.begun.state) c.args.before (state_of c.advance.new.state) _ c.in_ok-advance.ensures (rw c.in-None.is at c.in_ok-left.ensures)
