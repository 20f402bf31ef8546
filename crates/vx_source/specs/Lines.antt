-- The lines of a source, each with its number from 1 on.
use Rattle.std.specs.Prelude.{ℕ, ◌+◌, List, [], ◌∷◌, ◌++◌, length, take, slice_index, Bool, ◌==◌, ◌||◌, Ok, Err, if◌then◌else◌, codes}
use Rattle.std.specs.Str.{bytes_eq}
use Rattle.vx_words.specs.Lines.{lines}
use Rattle.vx_source_words.specs.Reading.{Read, ◌>>=◌}
use Rattle.vx_source_words.specs.Tokens.{unindented, blank_place, tokens}
use Rattle.vx_source.specs.Statements.{is_part, statement_of}
use Rattle.vx_source.specs.declared.statement.Statement.{Statement}
use Rattle.vx_source.specs.declared.lines.Said.{Said}
use Rattle.vx_source.specs.declared.lines.Said.TheVariants as said
use Rattle.vx_source.specs.declared.lines.SourceLine.{SourceLine}
use Rattle.vx_source.specs.declared.lines.Source.{Source}

-- an empty line, or a comment
abbrev pub is_skipped : List ℕ → Bool
is_skipped line = length (unindented line) == 0 || slice_index (unindented line) 0 == 35

abbrev pub first_word_of : List ℕ → List ℕ
first_word_of line = take (blank_place (unindented line)) (unindented line)

-- a body ends before a line that begins another part, and with `end`
abbrev pub ends_body : List ℕ → Bool
ends_body word = is_part word || bytes_eq word (codes "end")

-- the statement of a line
abbrev pub statement_in : List ℕ → Read Statement
statement_in line = tokens line >>= statement_of

abbrev pub said_of : Read Statement → Said
said_of (Ok s) = said.Statement s
said_of (Err reason) = said.Refused reason

unfoldable pub line_of : List ℕ → ℕ → SourceLine
line_of line number = record { number = number; ends_body = ends_body (first_word_of line); said = said_of (statement_in line) }

-- the lines from a number on that say something
unfoldable pub numbered : ℕ → List (List ℕ) → List SourceLine
numbered n [] = []
numbered n (line ∷ others) = (if is_skipped line then [] else line_of line n ∷ []) ++ numbered (n + 1) others

-- the lines that say something, and the number of all lines
abbrev pub source_of : List ℕ → Source
source_of bytes = record { lines = numbered 1 (lines bytes); count = length (lines bytes) }
