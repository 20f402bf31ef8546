-- The bytes of pieces, one piece after the other, are those of a stream.
use Rattle.std.proofs.Common.{◌≡◌, ℕ, Bool, true, false, List, [], ◌∷◌, ◌++◌, map, refl, sym, ◌∙◌, ap}
use Rattle.std.specs.Prelude.{filter, ◌&&◌, if◌then◌else◌}
use Rattle.std.specs.List.{flat_map}
use Rattle.std.proofs.lemmas.List.{map-append}
use Rattle.std.proofs.lemmas.List.Elements.{filter-append}
use Rattle.vx_value.specs.declared.end.Stream.{Stream}
use Rattle.vx_bdd_tools.specs.Nodes.{holds}
use Rattle.vx_report.specs.declared.report.Piece.{Piece}
use Rattle.vx_report.specs.declared.report.Report.{Report}
use Rattle.vx_report.specs.Projection.{bytes_of, same_stream}
use Rattle.vx_count.specs.Output.{output_of, piece_output}

-- the bytes of one stream among some
abbrev on_stream : Stream → List (Stream × ℕ) → List ℕ
on_stream stream bytes = map (λ b. b.1) (filter (λ b. same_stream stream b.0) bytes)

on_stream-append : (stream : Stream) (xs ys : List (Stream × ℕ)) → on_stream stream (xs ++ ys) ≡ on_stream stream xs ++ on_stream stream ys
on_stream-append stream xs ys = ap (map (λ b. b.1)) (filter-append (λ b. same_stream stream b.0) xs ys) ∙ map-append (λ b. b.1) (filter (λ b. same_stream stream b.0) xs) (filter (λ b. same_stream stream b.0) ys)

-- the bytes of a text are all on the stream, or none is
of_text : (stream other : Stream) (text : List ℕ) → on_stream stream (map (λ b. (other, b)) text) ≡ (if same_stream stream other then text else [])
of_text stream other text = by (same_stream stream other) refl text
  where
    by : (t : Bool) → same_stream stream other ≡ t → (text : List ℕ) → on_stream stream (map (λ b. (other, b)) text) ≡ (if same_stream stream other then text else [])
    by true e [] = rw e refl
    by true e (x ∷ xs) = let rest : on_stream stream (map (λ b. (other, b)) xs) ≡ xs = by true e xs ∙ ap (λ t. if t then xs else []) e in rw e (ap (λ ys. x ∷ ys) rest)
    by false e [] = rw e refl
    by false e (x ∷ xs) = let rest : on_stream stream (map (λ b. (other, b)) xs) ≡ [] = by false e xs ∙ ap (λ t. if t then xs else []) e in rw e rest

abbrev printed : Report → Stream → List Bool → List Piece → List ℕ
printed r stream c pieces = on_stream stream (flat_map bytes_of (filter (λ piece. holds r.nodes piece.node c) pieces))

pieces_printed : (r : Report) (stream : Stream) (c : List Bool) (pieces : List Piece) → flat_map (piece_output r stream c) pieces ≡ printed r stream c pieces
pieces_printed r stream c [] = refl
pieces_printed r stream c (p ∷ ps) = by (holds r.nodes p.node c) refl (pieces_printed r stream c ps)
  where
    and_true : (b : Bool) → (b && true) ≡ b
    and_true true = refl
    and_true false = refl

    and_false : (b : Bool) → (b && false) ≡ false
    and_false true = refl
    and_false false = refl

    by : (t : Bool) → holds r.nodes p.node c ≡ t → flat_map (piece_output r stream c) ps ≡ printed r stream c ps → flat_map (piece_output r stream c) (p ∷ ps) ≡ printed r stream c (p ∷ ps)
    by true e rest =
        let first : piece_output r stream c p ≡ on_stream stream (bytes_of p) = ap (λ t. if same_stream stream p.stream && t then p.text else []) e ∙ ap (λ t. if t then p.text else []) (and_true (same_stream stream p.stream)) ∙ sym (of_text stream p.stream p.text) in
        let second : printed r stream c (p ∷ ps) ≡ on_stream stream (bytes_of p ++ flat_map bytes_of (filter (λ piece. holds r.nodes piece.node c) ps)) = rw e refl in
        (λ i. first i ++ rest i) ∙ sym (second ∙ on_stream-append stream (bytes_of p) (flat_map bytes_of (filter (λ piece. holds r.nodes piece.node c) ps)))
    by false e rest =
        let first : piece_output r stream c p ≡ [] = ap (λ t. if same_stream stream p.stream && t then p.text else []) e ∙ ap (λ t. if t then p.text else []) (and_false (same_stream stream p.stream)) in
        let second : printed r stream c (p ∷ ps) ≡ printed r stream c ps = rw e refl in
        (λ i. first i ++ rest i) ∙ sym second

pub all_printed : (r : Report) (stream : Stream) (c : List Bool) → flat_map (piece_output r stream c) r.pieces ≡ output_of r stream c
all_printed r stream c = pieces_printed r stream c r.pieces
