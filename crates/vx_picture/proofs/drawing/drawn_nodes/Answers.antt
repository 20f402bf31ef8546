use Rattle.std.proofs.Common.{◌≡◌, ◌-◌, ◌∙◌, ap, map, take}
use Rattle.vx_report.specs.declared.report.Piece.{Piece}
use Rattle.vx_report.specs.declared.report.EndLine.{EndLine}
use Rattle.vx_picture.specs.Pictures.{greatest, named}
use Rattle.vx_picture.proofs.Numbered.{greatest-both}
use Rattle.vx_picture.proofs.drawing.drawn_nodes.Goals as goal

pub returns : goal.returns
returns c =
    let r = c.args.report.now in
    let first : c.greatest_piece-last.result ≡ greatest 1 (map (λ (piece : Piece). piece.node) r.pieces) = c.greatest_piece-last.ensures ∙ ap (λ xs. greatest 1 (map (λ (piece : Piece). piece.node) xs)) c.as_slice.ensures in
    let both : c.greatest_end-last.result ≡ greatest 1 (named r) = c.greatest_end-last.ensures ∙ ap (λ xs. greatest c.greatest_piece-last.result (map (λ (line : EndLine). line.node) xs)) c.as_slice-2.ensures ∙ ap (λ n. greatest n (map (λ (line : EndLine). line.node) r.ends)) first ∙ greatest-both 1 (map (λ (piece : Piece). piece.node) r.pieces) (map (λ (line : EndLine). line.node) r.ends) in
    c.first_nodes.ensures ∙ ap (λ xs. take c.saturating_sub.result xs) c.as_slice-3.ensures ∙ ap (λ n. take n r.nodes) (c.saturating_sub.ensures ∙ ap (λ n. n - 1) both)
