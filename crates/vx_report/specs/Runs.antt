-- Writing the output of a projection piece by piece, with the stream of the line that is open.
use Rattle.std.specs.Prelude.{ℕ, Bool, true, false, List, [], ◌∷◌, ◌++◌, Option, Some, None, ◌&&◌, if◌then◌else◌, codes, nat_lt, length}
use Rattle.vx_value.specs.declared.end.Stream.{Stream}
use Rattle.vx_value.specs.Words.{text_of}
use Rattle.vx_bdd_tools.specs.declared.node.Node.{Node}
use Rattle.vx_bdd_tools.specs.Nodes.{holds}
use Rattle.vx_report.specs.declared.report.Piece.{Piece}
use Rattle.vx_report.specs.Lines.{stream_word}
use Rattle.vx_report.specs.Projection.{same_stream}

-- what ends the open line, if there is one
abbrev pub line_end : Option Stream → List ℕ
line_end None = []
line_end (Some stream) = 10 ∷ []

-- what stands before a text of a stream: nothing where the stream's line is open
abbrev pub begun : Stream → List ℕ
begun stream = stream_word stream ++ codes " "

abbrev pub break_before : Option Stream → Stream → List ℕ
break_before None stream = begun stream
break_before (Some open_stream) stream = if same_stream open_stream stream then [] else codes "\n" ++ begun stream

-- a piece that has a text, and whose node holds the configuration
abbrev pub is_shown : List Node → List Bool → Piece → Bool
is_shown nodes c piece = nat_lt 0 (length piece.text) && holds nodes piece.node c

abbrev pub run_text : Bool → Option Stream → Piece → List ℕ
run_text false now piece = []
run_text true now piece = break_before now piece.stream ++ text_of piece.text

abbrev pub run_open : Bool → Option Stream → Piece → Option Stream
run_open false now piece = now
run_open true now piece = Some piece.stream
