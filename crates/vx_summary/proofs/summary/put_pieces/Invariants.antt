use Rattle.std.proofs.Common.{take, ◌++◌, ◌≡◌}
use Rattle.std.specs.List.{flat_map}
use Rattle.vx_summary.specs.Pieces.{written}
use Rattle.vx_value.specs.Words.{text_of}
use Rattle.vx_summary.proofs.summary.put_pieces.Given as goal

abbrev pub invariant-loop-piece : goal.invariant-loop-piece
invariant-loop-piece l = l.out.items ≡ l.fn.out.items ++ flat_map (λ piece. text_of (written l.report.nodes l.c piece)) (take l.piece-index l.piece-items)
