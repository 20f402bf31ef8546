-- The text of a replay (own): the projection's text of the run, with its number of attempts, and a line for each frame.
use Rattle.std.specs.Prelude.{List, None, Option, Some, codes, decimal, flat_map, if◌then◌else◌, nat_le, option_and_then, position, slice_get, ℕ, ◌++◌, ◌==◌}
use Rattle.vx_java.specs.Machine.{place_at}
use Rattle.vx_java.specs.Report.{projection_of}
use Rattle.vx_java.specs.Step.{Run, result}
use Rattle.vx_lines.specs.Lines.{line_in}
use Rattle.vx_lines.specs.declared.table.LineTable.{LineTable}
use Rattle.vx_link.specs.Parts.{class_at, method_at}
use Rattle.vx_link.specs.declared.program.Program.{Program}
use Rattle.vx_replay.specs.Replays.{places_in, runs_in, traced}
use Rattle.vx_replay.specs.declared.running.Replay.{Replay}
use Rattle.vx_report.specs.Lines.{end_words}
use Rattle.vx_report.specs.Projection.{attempts_line, projection_text, run_line}
use Rattle.vx_value.specs.Words.{word_of}

-- the place of a method among those of the class file of its class; an initialiser that was made for a class has none
abbrev pub place_in_file : Program → (method : ℕ) → Option ℕ
place_in_file p m = position (λ other. other.0 == m) (class_at p (method_at p m).class.0).methods

-- the line of a position of the method at a place; no class file has a method at one that two bytes don't hold
abbrev pub line_by : LineTable → (place at : ℕ) → Option ℕ
line_by table place at = if nat_le place 65535 then line_in table place at else None

-- the line of a position, by the line table of the class
abbrev pub line_within : Program → LineTable → (method at : ℕ) → Option ℕ
line_within p table m at = option_and_then (λ place. line_by table place at) (place_in_file p m)

-- the same by the line tables of the first classes of a program, which are those of the folder; a core class has none
abbrev pub line_of : Program → List LineTable → (method at : ℕ) → Option ℕ
line_of p tables m at = option_and_then (λ table. line_within p table m at) (slice_get tables (method_at p m).class.0)

-- a place, and its line or `-`
abbrev pub line_word : Option ℕ → List ℕ
line_word None = codes "-"
line_word (Some line) = decimal line

abbrev pub frame_line : Program → List LineTable → ℕ × ℕ → List ℕ
frame_line p tables at = codes "at " ++ word_of (place_at p at.0 at.1) ++ codes " " ++ line_word (line_of p tables at.0 at.1) ++ codes "\n"

-- the text of a run
unfoldable pub replay_text : Program → List LineTable → Run → List ℕ
replay_text p tables r =
    codes "varexj replay 1\n" ++ (projection_text (projection_of 2 (result r)) ++ (flat_map (frame_line p tables) (traced r) ++ codes "done\n"))

-- ---- of what a run came to

-- its output, its end and its attempts
unfoldable pub run_lines : Replay → List ℕ
run_lines replay = flat_map run_line (runs_in replay.pieces.items) ++ (codes "end " ++ end_words replay.end ++ codes "\n") ++ attempts_line (Some replay.attempts)

abbrev pub text_by : Program → List LineTable → Replay → List ℕ
text_by p tables replay = codes "varexj replay 1\n" ++ (run_lines replay ++ (flat_map (frame_line p tables) (places_in replay.frames.items) ++ codes "done\n"))
