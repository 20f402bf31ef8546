use Rattle.std.proofs.Common.{◌∙◌, ap, map, sym, take}
use Rattle.std.specs.Prelude.{max}
use Rattle.vx_report.specs.declared.report.Piece.{Piece}
use Rattle.vx_picture.specs.Pictures.{greatest}
use Rattle.vx_picture.proofs.Numbered.{greatest-more}
use Rattle.vx_picture.proofs.drawing.greatest_piece.Goals as goal

pub loop-piece-preserved : goal.loop-piece-preserved
loop-piece-preserved c =
    c.max-last.ensures
    ∙ ap (λ n. max n c.piece-item.result.node) c.loop-piece.invariant
    ∙ ap (λ (x : Piece). max (greatest c.args.number (map (λ (y : Piece). y.node) (take c.loop-piece.piece-index c.args.pieces.now))) x.node) c.piece-item.is
    ∙ sym (greatest-more (λ (y : Piece). y.node) c.args.number c.args.pieces.now c.loop-piece.piece-index c.piece-item.result c.loop-piece-test.true)
