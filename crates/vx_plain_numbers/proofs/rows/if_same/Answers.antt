use Rattle.vx_plain.specs.Views.{state_of}
use Rattle.vx_plain_here.proofs.Comes.{comes_as}
use Rattle.vx_plain_here.specs.Rows.{here_in}
use Rattle.vx_plain_numbers.proofs.RowLaws.{same_missing}
use Rattle.vx_plain_numbers.proofs.rows.if_same.Goals as goal

pub returns-in-None : goal.returns-in-None
returns-in-None c = comes_as c.illegal.result _ _ _ _ (same_missing (here_in c.args.here.now (state_of c.args.state.now)) c.args.wanted c.args.offset (state_of c.args.state.now).top.operands c.in-None.ensures) c.illegal.ensures
