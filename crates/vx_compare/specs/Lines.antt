-- How the outputs of two reports differ at a configuration: the first line of the first stream whose bytes differ, or the order of the streams alone.
use Rattle.std.specs.Prelude.{ℕ, suc, Bool, true, false, ◌&&◌, List, [], ◌∷◌, take, Option, Some, None, is_some, if◌then◌else◌}
use Rattle.std.specs.List.{flat_map}
use Rattle.std.specs.Str.{bytes_eq}
use Rattle.vx_words.specs.Lines.{is_line_feed, with_first}
use Rattle.vx_value.specs.declared.end.Stream.{Stream}
use Rattle.vx_value.specs.declared.end.Stream.TheVariants.{Out, Err}
use Rattle.vx_report.specs.Projection.{end_at, output_at}
use Rattle.vx_bdd_tools.specs.Nodes.{holds}
use Rattle.vx_report.specs.declared.report.Piece.{Piece}
use Rattle.vx_report.specs.declared.report.Report.{Report}
use Rattle.vx_agree.specs.Equal.{are_equal}
use Rattle.vx_count.specs.Output.{output_of}
use Rattle.vx_compare.specs.declared.lines.Difference.{Difference}
use Rattle.vx_compare.specs.declared.lines.Difference.TheVariants.{Line, Mixed, Nothing}
use Rattle.vx_compare.specs.declared.lines.LineDifference.{LineDifference}

-- the lines of a text, each with the byte 10 that ends it
abbrev pub lines_of : List ℕ → List (List ℕ)
lines_of [] = []
lines_of (b ∷ bs) = if is_line_feed b then (b ∷ []) ∷ lines_of bs else with_first b (lines_of bs)

-- how much of a line is shown
abbrev pub front : List ℕ → List ℕ
front line = take 60 line

abbrev pub line_of : Stream → ℕ → List ℕ → List ℕ → LineDifference
line_of stream n one other = record { stream = stream; number = n; one = front one; other = front other }

-- the first line that differs, from one with this number on; a line that isn't there is empty
abbrev pub line_difference : Stream → ℕ → List (List ℕ) → List (List ℕ) → Option LineDifference
line_difference stream n [] [] = None
line_difference stream n [] (other ∷ others) = Some (line_of stream n [] other)
line_difference stream n (one ∷ ones) [] = Some (line_of stream n one [])
line_difference stream n (one ∷ ones) (other ∷ others) = if bytes_eq one other then line_difference stream (suc n) ones others else Some (line_of stream n one other)

abbrev pub on_stream : Stream → Report → Report → List Bool → Option LineDifference
on_stream stream one other c = line_difference stream 1 (lines_of (output_of one stream c)) (lines_of (output_of other stream c))

abbrev pub or_mixed : Bool → Difference
or_mixed true = Nothing
or_mixed false = Mixed

abbrev pub or_else : Option LineDifference → Difference → Difference
or_else None next = next
or_else (Some line) next = Line line

-- where the bytes on the stream for output don't differ
abbrev pub later_difference : Report → Report → List Bool → Difference
later_difference one other c = or_else (on_stream Err one other c) (or_mixed (are_equal (output_at one c) (output_at other c)))

abbrev pub output_difference : Report → Report → List Bool → Difference
output_difference one other c = or_else (on_stream Out one other c) (later_difference one other c)

-- where one of them has no end, nothing differs but that
abbrev pub difference_at : Report → Report → List Bool → Difference
difference_at one other c = if is_some (end_at one c) && is_some (end_at other c) then output_difference one other c else Nothing

-- ---- bytes that tell their stream

abbrev pub mark : Stream → ℕ
mark Out = 0
mark Err = 1

-- a byte behind that of its stream
abbrev pub marked_on : Stream → ℕ → List ℕ
marked_on stream b = mark stream ∷ b ∷ []

abbrev pub marked : Stream × ℕ → List ℕ
marked x = marked_on x.0 x.1

-- the bytes of a piece that a configuration has
abbrev pub piece_marked : Report → List Bool → Piece → List ℕ
piece_marked r c piece = if holds r.nodes piece.node c then flat_map (marked_on piece.stream) piece.text else []
