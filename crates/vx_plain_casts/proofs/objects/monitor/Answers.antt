use Rattle.vx_plain.specs.Views.{state_of, value_of}
use Rattle.vx_plain_here.proofs.Comes.{comes_as}
use Rattle.vx_plain_here.specs.Rows.{here_in}
use Rattle.vx_plain_casts.proofs.Laws.{monitor_none, monitor_there}
use Rattle.vx_plain_casts.proofs.objects.monitor.Goals as goal

pub returns-in-Some : goal.returns-in-Some
returns-in-Some c = comes_as c.pass_value.result _ _ _ _ (monitor_there (here_in c.args.here.now (state_of c.args.state.now)) (state_of c.args.state.now).top.operands (value_of c.in-Some.value) c.in-Some.ensures) c.pass_value.ensures

pub returns-in-None : goal.returns-in-None
returns-in-None c = comes_as c.illegal.result _ _ _ _ (monitor_none (here_in c.args.here.now (state_of c.args.state.now)) (state_of c.args.state.now).top.operands c.in-None.ensures) c.illegal.ensures
