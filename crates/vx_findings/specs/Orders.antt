-- The order of pieces is total, and tells all of them apart: the stream first, and then the text.
use Rattle.std.specs.Prelude.{◌≡◌, ℕ, List}
use Rattle.std.specs.Cmp.{IsTotalOrder, then_total, on_total, nat_cmp_total}
use Rattle.std.specs.Cmp.Lexicographic.{lists_total}
use Rattle.std.specs.declared.cmp.Ordering.{Ordering}
use Rattle.std.specs.declared.cmp.Ordering.TheVariants.{Equal}
use Rattle.vx_java.specs.Lockstep.{compare_pieces, stream_rank}
use Rattle.vx_java.proofs.Orders.{piece_equal}
use Rattle.vx_findings.specs.declared.piece.Piece.{Piece}

abbrev pub piece_cmp : Piece → Piece → Ordering
piece_cmp a b = compare_pieces (a.stream, a.text) (b.stream, b.text)

abbrev rank_of : Piece → ℕ
rank_of piece = stream_rank piece.stream

abbrev text_of : Piece → List ℕ
text_of piece = piece.text

pub piece_total : IsTotalOrder piece_cmp
piece_total = then_total (on_total rank_of nat_cmp_total) (on_total text_of (lists_total nat_cmp_total))

pub piece_exact : (a b : Piece) → piece_cmp a b ≡ Equal → a ≡ b
piece_exact a b h = let same = piece_equal (a.stream, a.text) (b.stream, b.text) h in λ i. record { stream = (same i).0; text = (same i).1 }
