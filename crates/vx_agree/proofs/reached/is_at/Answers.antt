use Rattle.vx_agree.proofs.Places.{at_place}
use Rattle.vx_agree.proofs.reached.is_at.Goals as goal

pub returns-then-entry-piece : goal.returns-then-entry-piece
returns-then-entry-piece g c = λ t. at_place c.args.reached.now c.args.index c.args.piece c.args.byte c.index-reached-index.result c.if-index-reached.false c.index-reached-index.is c.if-entry-piece.true t
