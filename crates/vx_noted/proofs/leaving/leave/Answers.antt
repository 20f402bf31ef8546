use Rattle.vx_noted.proofs.Attempted.{leaves_here}
use Rattle.vx_plain.specs.Views.{state_of}
use Rattle.vx_noted.proofs.leaving.leave.Goals as goal

pub returns : goal.returns
returns c =
    leaves_here c.leave_by.result c.args.program.now (state_of c.args.state.now) (state_of c.row.new.state) (state_of c.carried_out.new.state) (state_of c.leave_by.new.state) c.in_ok-outcome.outcome c.in_ok-carried.carried
    c.in_ok-outcome.ensures c.in_ok-carried.ensures c.leave_by.ensures
