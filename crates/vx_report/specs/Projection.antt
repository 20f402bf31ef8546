-- What a report says of one configuration: the joined texts of the pieces whose node holds it, the first end whose node does, and in version 2 the first number of attempts.
use Rattle.std.specs.Prelude.{ℕ, Bool, true, false, List, [], ◌∷◌, ◌++◌, map, filter, find, Option, Some, None, option_map, if◌then◌else◌, codes, decimal, nat_eq}
use Rattle.std.specs.List.{flat_map}
use Rattle.vx_value.specs.declared.end.End.{End}
use Rattle.vx_value.specs.declared.end.Stream.{Stream}
use Rattle.vx_value.specs.declared.end.Stream.TheVariants.{Out, Err}
use Rattle.vx_value.specs.Words.{text_of}
use Rattle.vx_bdd_tools.specs.declared.node.Node.{Node}
use Rattle.vx_bdd_tools.specs.Nodes.{holds}
use Rattle.vx_report.specs.declared.report.Piece.{Piece}
use Rattle.vx_report.specs.declared.report.AttemptLine.{AttemptLine}
use Rattle.vx_report.specs.declared.report.Report.{Report}
use Rattle.vx_report.specs.Lines.{stream_word, end_words}

-- the bytes of a piece, each with its stream
abbrev pub bytes_of : Piece → List (Stream × ℕ)
bytes_of piece = map (λ b. (piece.stream, b)) piece.text

-- the pieces whose node holds a configuration, joined
abbrev pub output_at : Report → List Bool → List (Stream × ℕ)
output_at r c = flat_map bytes_of (filter (λ piece. holds r.nodes piece.node c) r.pieces)

-- the first end whose node holds a configuration
abbrev pub end_at : Report → List Bool → Option End
end_at r c = option_map (λ line. line.end) (find (λ line. holds r.nodes line.node c) r.ends)

-- the first number of attempts whose node holds a configuration
abbrev pub attempts_in : List Node → List AttemptLine → List Bool → Option ℕ
attempts_in nodes lines c = option_map (λ line. line.attempts) (find (λ line. holds nodes line.node c) lines)

-- version 1 says nothing of attempts
abbrev pub attempts_at : Report → List Bool → Option ℕ
attempts_at r c = if nat_eq r.version 2 then attempts_in r.nodes r.attempts c else None

-- what one run wrote, how it ended, and how many attempts it used, where that is said
pub record Projection : Type 0 where
  pub output : List (Stream × ℕ)
  pub end : End
  pub attempts : Option ℕ

-- there is none where no end's node holds the configuration
abbrev pub project : Report → List Bool → Option Projection
project r c = option_map (λ end. record { output = output_at r c; end = end; attempts = attempts_at r c }) (end_at r c)

abbrev pub same_stream : Stream → Stream → Bool
same_stream Out Out = true
same_stream Err Err = true
same_stream Out Err = false
same_stream Err Out = false

-- one more byte before some runs of bytes of one stream
abbrev pub run_before : Stream → ℕ → List (Stream × List ℕ) → List (Stream × List ℕ)
run_before stream b [] = (stream, b ∷ []) ∷ []
run_before stream b (first ∷ others) = if same_stream stream first.0 then (stream, b ∷ first.1) ∷ others else (stream, b ∷ []) ∷ first ∷ others

-- the longest runs of bytes of one stream
abbrev pub runs : List (Stream × ℕ) → List (Stream × List ℕ)
runs [] = []
runs ((stream, b) ∷ rest) = run_before stream b (runs rest)

-- one line for each run
abbrev pub run_line : Stream × List ℕ → List ℕ
run_line run = stream_word run.0 ++ codes " " ++ text_of run.1 ++ codes "\n"

abbrev pub attempts_line : Option ℕ → List ℕ
attempts_line None = []
attempts_line (Some n) = codes "attempts " ++ decimal n ++ codes "\n"

-- the text of a projection: a line for each longest run of bytes of one stream, then the end, then the number of attempts
unfoldable pub projection_text : Projection → List ℕ
projection_text p = flat_map run_line (runs p.output) ++ (codes "end " ++ end_words p.end ++ codes "\n") ++ attempts_line p.attempts
