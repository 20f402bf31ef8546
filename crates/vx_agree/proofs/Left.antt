-- What is left of an output from a place on.
use Rattle.std.proofs.Common.{◌≡◌, ℕ, suc, ◌+◌, ◌<◌, ◌≤◌, Bool, true, false, List, [], ◌∷◌, ◌++◌, length, drop, drop-cons, get_or, refl, sym, ◌∙◌, ap, arith}
use Rattle.std.specs.Prelude.{filter, if◌then◌else◌}
use Rattle.std.specs.List.{flat_map}
use Rattle.std.proofs.lemmas.List.{drop_all}
use Rattle.std.proofs.Math.Seq.{drop-nil}
use Rattle.vx_bdd_tools.specs.Nodes.{holds}
use Rattle.vx_report.specs.Projection.{bytes_of, output_at}
use Rattle.vx_report.specs.declared.report.Piece.{Piece}
use Rattle.vx_report.specs.declared.report.Report.{Report}
use Rattle.vx_agree.specs.Left.{bytes_if, first_left, left_from, said, written}

-- what pieces write is the output
said_of : (r : Report) (c : List Bool) (pieces : List Piece) → said r c pieces ≡ flat_map bytes_of (filter (λ piece. holds r.nodes piece.node c) pieces)
said_of r c [] = refl
said_of r c (piece ∷ pieces) = by (said_of r c pieces) (holds r.nodes piece.node c)
  where
    by : said r c pieces ≡ flat_map bytes_of (filter (λ x. holds r.nodes x.node c) pieces) → (b : Bool) → bytes_if b piece ++ said r c pieces ≡ flat_map bytes_of (if b then piece ∷ filter (λ x. holds r.nodes x.node c) pieces else filter (λ x. holds r.nodes x.node c) pieces)
    by e true = ap (λ ys. bytes_of piece ++ ys) e
    by e false = e

pub said_output : (r : Report) (c : List Bool) → said r c r.pieces ≡ output_at r c
said_output r c = said_of r c r.pieces

-- from the start of a piece on
pub left_start : (r : Report) (c : List Bool) (piece : ℕ) → left_from r c piece 0 ≡ said r c (drop piece r.pieces)
left_start r c piece = of (drop piece r.pieces)
  where
    of : (pieces : List Piece) → first_left r c 0 pieces ≡ said r c pieces
    of [] = refl
    of (x ∷ xs) = refl

-- what is left of the piece, and what is left behind it
pub left_here : (r : Report) (c : List Bool) (i : ℕ) (d : Piece) (byte : ℕ) → i < length r.pieces → left_from r c i byte ≡ drop byte (written r c (get_or r.pieces i d)) ++ left_from r c (i + 1) 0
left_here r c i d byte l =
    let one : suc i ≡ i + 1 = omega arith in
    ap (first_left r c byte) (drop-cons r.pieces i d l)
    ∙ ap (λ k. drop byte (written r c (get_or r.pieces i d)) ++ said r c (drop k r.pieces)) one
    ∙ ap (λ ys. drop byte (written r c (get_or r.pieces i d)) ++ ys) (sym (left_start r c (i + 1)))

pub left_end : (r : Report) (c : List Bool) (i byte : ℕ) → length r.pieces ≤ i → left_from r c i byte ≡ []
left_end r c i byte l = ap (first_left r c byte) (drop_all i r.pieces l)

-- a piece that isn't written leaves nothing
pub left_silent : (r : Report) (c : List Bool) (i : ℕ) (d : Piece) (byte : ℕ) → i < length r.pieces → holds r.nodes (get_or r.pieces i d).node c ≡ false → left_from r c i byte ≡ left_from r c (i + 1) 0
left_silent r c i d byte l t =
    left_here r c i d byte l
    ∙ ap (λ b. drop byte (bytes_if b (get_or r.pieces i d)) ++ left_from r c (i + 1) 0) t
    ∙ ap (λ ys. ys ++ left_from r c (i + 1) 0) (drop-nil byte)

-- one piece more of an output
pub said_more : (r : Report) (c : List Bool) (i : ℕ) (d : Piece) → i < length r.pieces → said r c (drop i r.pieces) ≡ written r c (get_or r.pieces i d) ++ said r c (drop (i + 1) r.pieces)
said_more r c i d l =
    let one : suc i ≡ i + 1 = omega arith in
    ap (said r c) (drop-cons r.pieces i d l) ∙ ap (λ k. written r c (get_or r.pieces i d) ++ said r c (drop k r.pieces)) one
