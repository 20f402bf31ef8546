use Rattle.std.proofs.Common.{◌≡◌, flat_map, take}
use Rattle.vx_compare.specs.Lines.{piece_marked}
use Rattle.vx_compare.proofs.lines.marked.Given as goal

abbrev pub invariant-loop-piece : goal.invariant-loop-piece
invariant-loop-piece l = l.bytes.items ≡ flat_map (piece_marked l.fn.report l.fn.c) (take l.piece-index l.fn.report.pieces)
