use Rattle.std.proofs.Common.{◌≡◌, ◌∙◌, ap, arith, flat_map, length, take}
use Rattle.std.proofs.lemmas.List.{take_all}
use Rattle.vx_compare.specs.Lines.{piece_marked}
use Rattle.vx_compare.proofs.FirstLines.{all_marked}
use Rattle.vx_compare.proofs.lines.marked.Goals as goal

pub returns : goal.returns
returns c =
    let r = c.args.report.now in
    let all : take c.loop-piece.piece-index r.pieces ≡ r.pieces = take_all c.loop-piece.piece-index r.pieces (omega (arith, c.loop-piece-test.false, ap length c.as_slice-piece-items.ensures)) in
    c.loop-piece.invariant ∙ ap (flat_map (piece_marked r c.args.c.now)) all ∙ all_marked r c.args.c.now r.pieces
