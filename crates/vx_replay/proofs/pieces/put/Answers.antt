use Rattle.vx_replay.proofs.Behind.{all_put}
use Rattle.vx_replay.proofs.pieces.put.Goals as goal

pub returns-else-is_empty-clause-bytes : goal.returns-else-is_empty-clause-bytes
returns-else-is_empty-clause-bytes c =
    all_put c.put_piece.result c.args.pieces.now.items c.put_piece.new.pieces.items c.args.written c.in-Some.written c.from_vec.result c.in-Some.is c.from_vec.ensures c.put_piece.ensures
