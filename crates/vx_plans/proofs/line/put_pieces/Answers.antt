use Rattle.std.proofs.lemmas.Result.{err_from_is_err_and}
use Rattle.vx_plans.specs.Line.{piece_bytes}
use Rattle.vx_plans.proofs.Puts.{stops_at}
use Rattle.vx_plans.proofs.line.put_pieces.Goals as goal

pub returns-in_err-put_piece : goal.returns-in_err-put_piece
returns-in_err-put_piece g c =
    let p = err_from_is_err_and c.from_residual.result c.from_residual.ensures.1 in
    rw (p.1, p.2) (stops_at piece_bytes _ _ _ _ _ _ _ c.loop-piece-test.true c.loop-piece.invariant.gained c.loop-piece.invariant.faults c.loop-piece.invariant.shortages c.in_err-put_piece.ensures)
