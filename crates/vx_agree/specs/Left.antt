-- What the pieces of a report write at a configuration, and what is left of it from a byte of a piece on.
use Rattle.std.specs.Prelude.{ℕ, Bool, true, false, List, [], ◌∷◌, ◌++◌, drop}
use Rattle.vx_bdd_tools.specs.Nodes.{holds}
use Rattle.vx_report.specs.Projection.{bytes_of}
use Rattle.vx_report.specs.declared.report.Piece.{Piece}
use Rattle.vx_report.specs.declared.report.Report.{Report}
use Rattle.vx_value.specs.declared.end.Stream.{Stream}

-- the bytes of a piece, if it is written
abbrev pub bytes_if : Bool → Piece → List (Stream × ℕ)
bytes_if true piece = bytes_of piece
bytes_if false piece = []

-- what a piece of a report writes
abbrev pub written : Report → List Bool → Piece → List (Stream × ℕ)
written r c piece = bytes_if (holds r.nodes piece.node c) piece

abbrev pub said : Report → List Bool → List Piece → List (Stream × ℕ)
said r c [] = []
said r c (piece ∷ pieces) = written r c piece ++ said r c pieces

abbrev pub first_left : Report → List Bool → ℕ → List Piece → List (Stream × ℕ)
first_left r c byte [] = []
first_left r c byte (piece ∷ pieces) = drop byte (written r c piece) ++ said r c pieces

-- what is left from a place on: so many pieces stand before it, and so many bytes of the next one
abbrev pub left_from : Report → List Bool → (piece byte : ℕ) → List (Stream × ℕ)
left_from r c piece byte = first_left r c byte (drop piece r.pieces)
