use Rattle.vx_plain.specs.Views.{state_of}
use Rattle.vx_replay.proofs.Carried.{came}
use Rattle.vx_replay.proofs.attempting.attempt.Goals as goal

pub returns : goal.returns
returns c =
    came c.args.program.now (state_of c.args.state.now) (state_of c.row.new.state) (state_of c.carried_out.new.state) (state_of c.led.new.state) c.in_ok-outcome.outcome c.in_ok-carried.carried
    c.in_ok-outcome.ensures c.in_ok-carried.ensures c.led.result c.led.ensures
