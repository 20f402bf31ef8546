-- Output written piece by piece is the lines of its runs.
use Rattle.std.proofs.Common.{◌≡◌, ℕ, ◌+◌, ◌<◌, Bool, true, false, List, [], ◌∷◌, ◌++◌, length, map, filter, drop, get_or, Option, Some, None, refl, ap, sym, ◌∙◌, arith, append_assoc, add-one, drop-cons, if◌then◌else◌, nat_lt, ◌&&◌, ◌≤◌, suc, subst, option_map, codes}
use Rattle.std.proofs.lemmas.Bool.Decides.{nat_tests}
use Rattle.std.specs.List.{flat_map}
use Rattle.std.proofs.lemmas.List.Concat.{flat_map-cons}
use Rattle.std.proofs.lemmas.List.{drop_all}
use Rattle.std.proofs.lemmas.Grind.{common_steps}
use Rattle.vx_value.specs.declared.end.Stream.{Stream}
use Rattle.vx_value.specs.declared.end.Stream.TheVariants.{Out, Err}
use Rattle.vx_value.specs.Words.{spelled_byte, text_of}
use Rattle.vx_bdd_tools.specs.declared.node.Node.{Node}
use Rattle.vx_bdd_tools.specs.Nodes.{holds}
use Rattle.vx_report.specs.declared.report.Piece.{Piece}
use Rattle.vx_report.specs.declared.report.Report.{Report}
use Rattle.vx_value.specs.declared.end.End.{End}
use Rattle.vx_report.specs.Lines.{end_words}
use Rattle.vx_report.specs.Projection.{project, projection_text, output_at, end_at, attempts_at, attempts_line, bytes_of, same_stream, run_before, runs, run_line}
use Rattle.vx_report.specs.Runs.{line_end, begun, break_before, is_shown, run_text, run_open}

-- the bytes of the pieces whose node holds a configuration
abbrev pub shown_bytes : List Node → List Bool → List Piece → List (Stream × ℕ)
shown_bytes nodes c pieces = flat_map bytes_of (filter (λ piece. holds nodes piece.node c) pieces)

-- what is still to be written
abbrev pub still : Option Stream → List (Stream × ℕ) → List ℕ
still now [] = line_end now
still now ((stream, b) ∷ rest) = break_before now stream ++ (spelled_byte 32 b ++ still (Some stream) rest)

open_already : (s : Stream) → break_before (Some s) s ≡ []
open_already Out = refl
open_already Err = refl

pub still_text : (s : Stream) (text : List ℕ) (xs : List (Stream × ℕ)) → still (Some s) (map (λ b. (s, b)) text ++ xs) ≡ text_of text ++ still (Some s) xs
still_text s [] xs = refl
still_text s (b ∷ text) xs = rw (open_already s, still_text s text xs, flat_map-cons (spelled_byte 32) b text) (grind (arith, common_steps))

-- a text with a byte isn't empty
some_text : (b : ℕ) (text : List ℕ) (P : Bool → Type 0) → P true → P (nat_lt 0 (length (b ∷ text)))
some_text b text P p = let e : nat_lt 0 (length (b ∷ text)) ≡ true = grind (arith, nat_tests) in subst P (sym e) p

-- a piece, and what comes then
piece_by : (now : Option Stream) (piece : Piece) (xs : List (Stream × ℕ)) (text : List ℕ) → text ≡ piece.text → (held : Bool)
    → still now ((if held then map (λ b. (piece.stream, b)) text ++ xs else xs)) ≡ run_text (nat_lt 0 (length text) && held) now piece ++ still (run_open (nat_lt 0 (length text) && held) now piece) xs
piece_by now piece xs [] e true = refl
piece_by now piece xs [] e false = refl
piece_by now piece xs (b ∷ text) e false = some_text b text (λ full. still now xs ≡ run_text (full && false) now piece ++ still (run_open (full && false) now piece) xs) refl
piece_by now piece xs (b ∷ text) e true =
    some_text b text (λ full. still now ((piece.stream, b) ∷ (map (λ b. (piece.stream, b)) text ++ xs)) ≡ run_text (full && true) now piece ++ still (run_open (full && true) now piece) xs)
    (rw (← e, still_text piece.stream text xs, flat_map-cons (spelled_byte 32) b text) (grind (arith, common_steps)))

held_first : (nodes : List Node) (c : List Bool) (piece : Piece) (rest : List Piece) (held : Bool) → flat_map bytes_of ((if held then piece ∷ rest else rest)) ≡ (if held then bytes_of piece ++ flat_map bytes_of rest else flat_map bytes_of rest)
held_first nodes c piece rest true = flat_map-cons bytes_of piece rest
held_first nodes c piece rest false = refl

-- the piece of a place, and what comes then
pub output_step : (nodes : List Node) (c : List Bool) (now : Option Stream) (pieces : List Piece) (i : ℕ) (piece : Piece) → i < length pieces → piece ≡ get_or pieces i piece
    → still now (shown_bytes nodes c (drop i pieces)) ≡ run_text (is_shown nodes c piece) now piece ++ still (run_open (is_shown nodes c piece) now piece) (shown_bytes nodes c (drop (i + 1) pieces))
output_step nodes c now pieces i piece h is =
    let rest = filter (λ piece. holds nodes piece.node c) (drop (i + 1) pieces) in
    let first : drop i pieces ≡ piece ∷ drop (i + 1) pieces = rw (add-one, drop-cons pieces i piece) (ap (λ x. x ∷ drop (suc i) pieces) (sym is)) in
    rw (first, held_first nodes c piece rest (holds nodes piece.node c)) (piece_by now piece (flat_map bytes_of rest) piece.text refl (holds nodes piece.node c))

-- and the invariant after it
pub output_more : (nodes : List Node) (c : List Bool) (now after : Option Stream) (pieces : List Piece) (i : ℕ) (piece : Piece) (out out' all : List ℕ) → i < length pieces → piece ≡ get_or pieces i piece
    → out ++ still now (shown_bytes nodes c (drop i pieces)) ≡ all
    → out' ≡ out ++ run_text (is_shown nodes c piece) now piece → after ≡ run_open (is_shown nodes c piece) now piece
    → out' ++ still after (shown_bytes nodes c (drop (i + 1) pieces)) ≡ all
output_more nodes c now after pieces i piece out out' all h is before e f =
    rw (e, f) (append_assoc out _ _ ∙ ap (λ x. out ++ x) (sym (output_step nodes c now pieces i piece h is)) ∙ before)

-- the runs so far, with the line of a stream open
abbrev continued : Stream → List (Stream × List ℕ) → List ℕ
continued s [] = 10 ∷ []
continued s ((t, bs) ∷ others) = if same_stream s t then text_of bs ++ 10 ∷ flat_map run_line others else 10 ∷ flat_map run_line ((t, bs) ∷ others)

continued_before : (s t : Stream) (b : ℕ) (rs : List (Stream × List ℕ)) → continued s (run_before t b rs) ≡ break_before (Some s) t ++ (spelled_byte 32 b ++ continued t rs)
continued_before Out Out b [] = grind (arith, common_steps)
continued_before Out Err b [] = grind (arith, common_steps)
continued_before Err Out b [] = grind (arith, common_steps)
continued_before Err Err b [] = grind (arith, common_steps)
continued_before Out Out b ((Out, bs) ∷ others) = grind (arith, common_steps)
continued_before Out Out b ((Err, bs) ∷ others) = grind (arith, common_steps)
continued_before Out Err b ((Out, bs) ∷ others) = grind (arith, common_steps)
continued_before Out Err b ((Err, bs) ∷ others) = grind (arith, common_steps)
continued_before Err Out b ((Out, bs) ∷ others) = grind (arith, common_steps)
continued_before Err Out b ((Err, bs) ∷ others) = grind (arith, common_steps)
continued_before Err Err b ((Out, bs) ∷ others) = grind (arith, common_steps)
continued_before Err Err b ((Err, bs) ∷ others) = grind (arith, common_steps)

still_some : (s : Stream) (xs : List (Stream × ℕ)) → still (Some s) xs ≡ continued s (runs xs)
still_some s [] = refl
still_some s ((t, b) ∷ rest) = rw (still_some t rest, continued_before s t b (runs rest)) refl

lines_before : (t : Stream) (b : ℕ) (rs : List (Stream × List ℕ)) → flat_map run_line (run_before t b rs) ≡ begun t ++ (spelled_byte 32 b ++ continued t rs)
lines_before Out b [] = grind (arith, common_steps)
lines_before Err b [] = grind (arith, common_steps)
lines_before Out b ((Out, bs) ∷ others) = grind (arith, common_steps)
lines_before Out b ((Err, bs) ∷ others) = grind (arith, common_steps)
lines_before Err b ((Out, bs) ∷ others) = grind (arith, common_steps)
lines_before Err b ((Err, bs) ∷ others) = grind (arith, common_steps)

pub still_none : (xs : List (Stream × ℕ)) → still None xs ≡ flat_map run_line (runs xs)
still_none [] = refl
still_none ((t, b) ∷ rest) = rw (still_some t rest, lines_before t b (runs rest)) refl

pub output_whole : (nodes : List Node) (c : List Bool) (now : Option Stream) (pieces : List Piece) (i : ℕ) (out out' old : List ℕ) (xs : List (Stream × ℕ)) → length pieces ≤ i
    → out ++ still now (shown_bytes nodes c (drop i pieces)) ≡ old ++ still None xs
    → out' ≡ out ++ line_end now → out' ≡ old ++ flat_map run_line (runs xs)
output_whole nodes c now pieces i out out' old xs h before e =
    let none : drop i pieces ≡ [] = drop_all i pieces h in
    e ∙ (rw none at before) ∙ ap (λ x. old ++ x) (still_none xs)

-- the three parts of a projection's text
pub projected : (r : Report) (c : List Bool) (end : End) (start a b d : List ℕ) → start ≡ [] → end_at r c ≡ Some end
    → a ≡ start ++ flat_map run_line (runs (output_at r c)) → b ≡ a ++ (codes "end " ++ end_words end ++ codes "\n") → d ≡ b ++ attempts_line (attempts_at r c)
    → Some d ≡ option_map projection_text (project r c)
unfolding projection_text
projected r c end start a b d none is e f g = rw (is, g, f, e, none) refl
