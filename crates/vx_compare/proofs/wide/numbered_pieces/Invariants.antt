use Rattle.std.proofs.Common.{◌≡◌, ◌++◌, length}
use Rattle.std.specs.Vec.Iter.{into_iter_items, into_iter_len}
use Rattle.vx_compare.specs.Wide.{piece_with, renumbered}
use Rattle.vx_compare.proofs.wide.numbered_pieces.Given as goal

abbrev pub invariant-loop-piece : goal.invariant-loop-piece
invariant-loop-piece l =
    (into_iter_len l.piece-iterator ≡ length (into_iter_items l.piece-iterator))
    × (l.lines.items ++ renumbered piece_with (into_iter_items l.piece-iterator) l.rest ≡ renumbered piece_with l.fn.pieces.items l.fn.numbers)
