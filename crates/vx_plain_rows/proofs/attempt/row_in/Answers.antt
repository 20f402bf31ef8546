use Rattle.vx_plain.specs.Views.{state_of}
use Rattle.vx_plain_here.proofs.Comes.{comes_as}
use Rattle.vx_plain_rows.proofs.Attempts.{in_code, row_missing, row_there}
use Rattle.vx_plain_rows.proofs.attempt.row_in.Goals as goal

pub row_at-requires-clause-stands : goal.row_at-requires-clause-stands
row_at-requires-clause-stands c =
    let inside = rw c.as_slice.ensures at c.in-Ok.ensures.bounds in
    in_code _ _ c.in-Ok.instruction.length _ c.position.ensures inside.0 inside.1 c.requires.few

pub returns-in-Ok : goal.returns-in-Ok
returns-in-Ok c =
    comes_as c.row_at.result _ _ _ _ (row_there c.args.program.now (state_of c.args.state.now) c.args.code.now c.in-Ok.instruction _ _ _ c.as_slice.ensures c.position.ensures c.in-Ok.ensures.value) c.row_at.ensures

pub returns-in-Err : goal.returns-in-Err
returns-in-Err c =
    comes_as c.illegal_at.result _ _ _ _ (row_missing c.args.program.now (state_of c.args.state.now) c.args.code.now _ _ _ _ c.as_slice.ensures c.position.ensures c.in-Err.ensures.value) c.illegal_at.ensures
