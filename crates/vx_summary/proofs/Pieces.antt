-- What pieces write to `out` is what the output at a configuration has on it.
use Rattle.std.specs.List.{flat_map}
use Rattle.std.proofs.Common.{Bool, List, [], ap, false, filter, if◌then◌else◌, length, map, refl, sym, take, true, ℕ, ◌++◌, ◌∙◌, ◌∷◌, ◌≡◌, ◌≤◌}
use Rattle.std.proofs.lemmas.Grind.{flat_map-append}
use Rattle.std.proofs.lemmas.List.{take_all}
use Rattle.vx_bdd_tools.specs.Nodes.{holds}
use Rattle.vx_bdd_tools.specs.declared.node.Node.{Node}
use Rattle.vx_report.specs.Projection.{bytes_of, output_at}
use Rattle.vx_report.specs.declared.report.Piece.{Piece}
use Rattle.vx_report.specs.declared.report.Report.{Report}
use Rattle.vx_summary.specs.Pieces.{written}
use Rattle.vx_summary.specs.Summary.{on_out, out_bytes}
use Rattle.vx_value.specs.Words.{spelled_byte, text_of}
use Rattle.vx_value.specs.declared.end.Stream.{Stream}
use Rattle.vx_value.specs.declared.end.Stream.TheVariants.{Err, Out}

bytes_out : (stream : Stream) (text : List ℕ) → out_bytes (map (λ b. (stream, b)) text) ≡ on_out stream text
bytes_out Out [] = refl
bytes_out Out (b ∷ text) = ap (λ t. b ∷ t) (bytes_out Out text)
bytes_out Err [] = refl
bytes_out Err (b ∷ text) = bytes_out Err text

-- the pieces whose node holds a configuration
abbrev held : List Node → List Bool → List Piece → List Piece
held nodes c pieces = filter (λ piece. holds nodes piece.node c) pieces

abbrev texts : List Node → List Bool → List Piece → List ℕ
texts nodes c pieces = flat_map (λ piece. text_of (written nodes c piece)) pieces

pieces_out : (nodes : List Node) (c : List Bool) (pieces : List Piece) → texts nodes c pieces ≡ text_of (out_bytes (flat_map bytes_of (held nodes c pieces)))
pieces_out nodes c [] = refl
pieces_out nodes c (piece ∷ pieces) = by (holds nodes piece.node c) (pieces_out nodes c pieces)
  where
    rest : List Piece
    rest = held nodes c pieces

    by : (holds : Bool) → texts nodes c pieces ≡ text_of (out_bytes (flat_map bytes_of rest))
        → text_of (if holds then on_out piece.stream piece.text else []) ++ texts nodes c pieces ≡ text_of (out_bytes (flat_map bytes_of (if holds then piece ∷ rest else rest)))
    by true later =
        let both = flat_map-append (λ b. on_out b.0 (b.1 ∷ [])) (bytes_of piece) (flat_map bytes_of rest) in
        (λ i. text_of (sym (bytes_out piece.stream piece.text) i) ++ later i)
        ∙ sym (flat_map-append (spelled_byte 32) (out_bytes (bytes_of piece)) (out_bytes (flat_map bytes_of rest)))
        ∙ ap text_of (sym both)
    by false later = later

-- all of them
pub all_out : (r : Report) (c : List Bool) (pieces : List Piece) (i : ℕ) (start now : List ℕ) → pieces ≡ r.pieces → length pieces ≤ i
    → now ≡ start ++ texts r.nodes c (take i pieces) → now ≡ start ++ text_of (out_bytes (output_at r c))
all_out r c pieces i start now are all is =
    is ∙ ap (λ p. start ++ texts r.nodes c p) (take_all i pieces all ∙ are) ∙ ap (λ t. start ++ t) (pieces_out r.nodes c r.pieces)
