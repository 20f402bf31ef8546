use Rattle.vx_plain.specs.Views.{state_of}
use Rattle.vx_plain_here.proofs.Comes.{comes_as}
use Rattle.vx_plain_rows.proofs.Attempts.{row_seen}
use Rattle.vx_plain_rows.proofs.attempt.row_at.Goals as goal

pub returns : goal.returns
returns c =
    comes_as c.row_of.result _ _ _ _
    (row_seen c.args.program.now (state_of c.args.state.now) c.args.code.now c.args.instruction.now c.pool_of-pool.result.now c.current_class-class.result.0 c.operation-does.result
    c.current_class-class.ensures c.pool_of-pool.ensures c.operation-does.ensures)
    c.row_of.ensures
