-- The text of a trace (the class library of Java SE 7: Throwable.printStackTrace; of an end that is no exception, own).
use Rattle.std.specs.List.{list_any}
use Rattle.std.specs.Prelude.{Bool, List, None, Option, Some, [], bytes_eq, codes, decimal, false, flat_map, if◌then◌else◌, length, map, option_and_then, reverse, slice_get, suc, take, true, zero, ℕ, ◌&&◌, ◌++◌, ◌-◌, ◌==◌, ◌∷◌}
use Rattle.vx_java.specs.Machine.{Ref, State, Value, cell_at, object_at}
use Rattle.vx_java.specs.Step.{Run, result, steps, utf8_of}
use Rattle.vx_java.specs.Texts.{units_in}
use Rattle.vx_lines.specs.declared.table.LineTable.{LineTable}
use Rattle.vx_link.specs.ClassNames.{class_text}
use Rattle.vx_link.specs.Parts.{class_at, method_at}
use Rattle.vx_link.specs.declared.program.Program.{Program}
use Rattle.vx_noted.specs.Leaving.{left_in}
use Rattle.vx_noted.specs.Noted.{noted_in}
use Rattle.vx_noted.specs.declared.frames.Standing.{Standing}
use Rattle.vx_replay.specs.ReplayText.{line_of}
use Rattle.vx_replay.specs.Replays.{traced}
use Rattle.vx_report.specs.Lines.{end_words}
use Rattle.vx_trace.specs.Shown.{shown}
use Rattle.vx_trace.specs.declared.frame.FrameLine.{FrameLine}
use Rattle.vx_trace.specs.declared.origin.Origin.{Origin}
use Rattle.vx_value.specs.declared.end.End.{End}
use Rattle.vx_value.specs.declared.end.End.TheVariants.{Uncaught}

-- ---- a frame

-- the name of a class with a dot for each slash
abbrev pub dot : ℕ → ℕ
dot b = if b == 47 then 46 else b

abbrev pub dotted : List ℕ → List ℕ
dotted name = map dot name

-- the source file of a class, by those of the first classes of a program, which are those of the folder; a core class has none
abbrev pub file_of : Program → List (Option (List ℕ)) → (method : ℕ) → Option (List ℕ)
file_of p files m = option_and_then (λ file. file) (slice_get files (method_at p m).class.0)

abbrev pub place_words : Option (List ℕ) → Option ℕ → List ℕ
place_words None line = codes "Unknown Source"
place_words (Some file) None = file
place_words (Some file) (Some line) = file ++ (codes ":" ++ decimal line)

abbrev pub method_words : Program → ℕ → List ℕ
method_words p m = dotted (class_at p (method_at p m).class.0).name ++ (codes "." ++ (method_at p m).name)

abbrev pub frame_line : Program → List LineTable → List (Option (List ℕ)) → (method at : ℕ) → List ℕ
frame_line p tables files m at =
    codes "\tat " ++ (method_words p m ++ (codes "(" ++ (place_words (file_of p files m) (line_of p tables m at) ++ codes ")\n")))

-- with the line, which is not told where the file isn't
abbrev pub line_at : Program → List LineTable → List (Option (List ℕ)) → Standing → FrameLine
line_at p tables files f = record { text = frame_line p tables files f.method.0 f.position; line = line_of p tables f.method.0 f.position }

-- ---- a throwable

abbrev pub message_words : State → Value → List ℕ
message_words s (Ref text) = codes ": " ++ utf8_of (units_in (cell_at s text 0))
message_words s _ = []

-- its class and its message
abbrev pub head_line : Program → State → ℕ → List ℕ
head_line p s r = dotted (class_text p (object_at s r).class) ++ (message_words s (cell_at s r 0) ++ codes "\n")

-- the lines of the frames that it has noted in a run
abbrev pub noted_lines : Program → List LineTable → List (Option (List ℕ)) → ℕ → Run → State → ℕ → List FrameLine
noted_lines p tables files n first s r = map (line_at p tables files) (shown p (object_at s r).class (noted_in p n first r))

-- frames are the same where class, method, file and line are
abbrev pub same_line : Option ℕ → Option ℕ → Bool
same_line None None = true
same_line (Some line) (Some other) = line == other
same_line _ _ = false

abbrev pub is_same : FrameLine → FrameLine → Bool
is_same line other = bytes_eq line.text other.text && same_line line.line other.line

-- how many frames two lists have in common at their ends
abbrev pub same_front : List FrameLine → List FrameLine → ℕ
same_front [] lines = 0
same_front (line ∷ rest) [] = 0
same_front (line ∷ rest) (other ∷ others) = if is_same line other then suc (same_front rest others) else 0

abbrev pub in_common : (above lines : List FrameLine) → ℕ
in_common above lines = same_front (reverse above) (reverse lines)

abbrev pub more_line : ℕ → List ℕ
more_line n = if n == 0 then [] else codes "\t... " ++ (decimal n ++ codes " more\n")

-- its frames without those that it has in common with the throwable that it caused
abbrev pub lines_text : (above lines : List FrameLine) → List ℕ
lines_text above lines = flat_map (λ line. line.text) (take (length lines - in_common above lines) lines) ++ more_line (in_common above lines)

-- ---- a throwable with its causes

-- the most causes that are told
unfoldable pub cause_bound : ℕ
cause_bound = 1024

-- at most so many causes of one another, up to one that was told
abbrev pub causes_from : State → ℕ → (told : List ℕ) → Value → List ℕ
causes_from s zero told v = []
causes_from s (suc n) told (Ref r) = if list_any (λ o. o == r) told then [] else r ∷ causes_from s n (told ++ r ∷ []) (cell_at s r 1)
causes_from s (suc n) told _ = []

-- a throwable and its causes, each the cause of the one before
abbrev pub chain : State → ℕ → List ℕ
chain s r = r ∷ causes_from s cause_bound (r ∷ []) (cell_at s r 1)

-- each with its caption, over the lines of the one before
abbrev pub chain_text : Program → State → (ℕ → List FrameLine) → (caption : List ℕ) → (above : List FrameLine) → List ℕ → List ℕ
chain_text p s lines caption above [] = []
chain_text p s lines caption above (r ∷ rest) =
    (caption ++ (head_line p s r ++ lines_text above (lines r))) ++ chain_text p s lines (codes "Caused by: ") (lines r) rest

abbrev pub exception_text : Program → State → (ℕ → List FrameLine) → ℕ → List ℕ
exception_text p s lines r = chain_text p s lines (codes "Exception in thread \"main\" ") [] (chain s r)

-- ---- a run

-- its end as in a report, and where its frames stand
abbrev pub end_text : Program → List LineTable → List (Option (List ℕ)) → End → List (ℕ × ℕ) → List ℕ
end_text p tables files end places = (end_words end ++ codes "\n") ++ flat_map (λ at. frame_line p tables files at.0 at.1) places

-- what leaves a run that ends by an exception
abbrev pub thrown_by : Program → Run → End → Option (State × ℕ)
thrown_by p r (Uncaught class) = left_in p r
thrown_by p r _ = None

abbrev pub text_by : Program → List LineTable → List (Option (List ℕ)) → ℕ → (first last : Run) → Option (State × ℕ) → List ℕ
text_by p tables files n first last None = end_text p tables files (result last).end (traced last)
text_by p tables files n first last (Some left) = exception_text p left.0 (noted_lines p tables files n first left.0) left.1

-- the text of the trace of a run of at most n attempts
unfoldable pub traced_text : Program → List LineTable → List (Option (List ℕ)) → ℕ → (first : Run) → List ℕ
traced_text p tables files n first =
    let last = steps p n first in
    text_by p tables files n first last (thrown_by p last (result last).end)

-- ---- what the text is made of

abbrev pub lines_in : Origin → Run → State → ℕ → List FrameLine
lines_in o first s r = noted_lines o.program.now o.tables.now o.files.now o.limit first s r
