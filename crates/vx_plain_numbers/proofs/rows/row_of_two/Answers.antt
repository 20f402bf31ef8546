use Rattle.vx_plain.specs.Views.{state_of}
use Rattle.vx_plain_here.proofs.Comes.{comes_as}
use Rattle.vx_plain_here.specs.Rows.{here_in}
use Rattle.vx_plain_numbers.proofs.RowLaws.{two_missing}
use Rattle.vx_plain_numbers.proofs.rows.row_of_two.Goals as goal

pub returns-in-None : goal.returns-in-None
returns-in-None c = comes_as c.illegal.result _ _ _ _ (two_missing (here_in c.args.here.now (state_of c.args.state.now)) c.args.operation (state_of c.args.state.now).top.operands c.requires.two c.in-None.ensures) c.illegal.ensures
