use Rattle.vx_plain.specs.Views.{state_of}
use Rattle.vx_replay.proofs.Carried.{others_stay}
use Rattle.vx_replay.proofs.attempting.carried_out.Goals as goal

pub returns-in_default : goal.returns-in_default
returns-in_default c = others_stay c.args.program.now (state_of c.args.state.now) c.args.outcome c.in_default.not-Begin c.in_default.not-Native
