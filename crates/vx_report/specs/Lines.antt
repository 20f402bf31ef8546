-- How each line of a report is spelled: its words with single spaces between them, numbers in decimal without leading zeros.
use Rattle.std.specs.Prelude.{ℕ, List, [], ◌∷◌, ◌++◌, ◌==◌, if◌then◌else◌, codes, decimal}
use Rattle.std.specs.Fmt.{signed_decimal}
use Rattle.vx_value.specs.declared.end.End.{End}
use Rattle.vx_value.specs.declared.end.End.TheVariants.{Return, Exit, Uncaught, Unsupported, Illegal, Unfinished}
use Rattle.vx_value.specs.declared.end.Stream.{Stream}
use Rattle.vx_value.specs.declared.end.Stream.TheVariants.{Out, Err}
use Rattle.vx_value.specs.Words.{text_of, word_of}
use Rattle.vx_report.specs.declared.line.Line.{Line}
use Rattle.vx_report.specs.declared.line.Line.TheVariants.{Head, Count, Named, Limit, Rounds, Numbered, Printed, Ended, Spent, Done}

-- what can be outside the accepted language, by number
abbrev pub kinds : List (ℕ × List ℕ)
kinds = (1, codes "float") ∷ (2, codes "subroutine") ∷ (3, codes "dynamic") ∷ (4, codes "constant") ∷ (5, codes "native") ∷ (6, codes "class") ∷ (7, codes "field") ∷ (8, codes "method") ∷ []

abbrev pub word_in : List (ℕ × List ℕ) → ℕ → List ℕ
word_in [] n = []
word_in (row ∷ rows) n = if n == row.0 then row.1 else word_in rows n

-- the word of a number from 1 to 8
unfoldable pub kind_word : ℕ → List ℕ
kind_word n = word_in kinds n

abbrev pub unsupported_words : ℕ → List ℕ → List ℕ → List ℕ
unsupported_words word what place = codes "unsupported " ++ kind_word word ++ codes " " ++ word_of what ++ codes " " ++ word_of place

unfoldable pub end_words : End → List ℕ
end_words Return = codes "return"
end_words (Exit code) = codes "exit " ++ signed_decimal code
end_words (Uncaught class) = codes "uncaught " ++ word_of class
end_words (Unsupported word what place) = unsupported_words word what place
end_words (Illegal place) = codes "illegal " ++ word_of place
end_words Unfinished = codes "unfinished"

abbrev pub stream_word : Stream → List ℕ
stream_word Out = codes "out"
stream_word Err = codes "err"

-- a line without the byte that ends it
unfoldable pub line_text : Line → List ℕ
line_text (Head version) = codes "varexj report " ++ decimal version
line_text (Count options) = codes "options " ++ decimal options
line_text (Named name) = codes "option " ++ name
line_text (Limit limit) = codes "limit " ++ decimal limit
line_text (Rounds rounds) = codes "rounds " ++ decimal rounds
line_text (Numbered id node) = codes "node " ++ decimal id ++ codes " " ++ decimal node.option ++ codes " " ++ decimal node.low ++ codes " " ++ decimal node.high
line_text (Printed piece) = stream_word piece.stream ++ codes " " ++ decimal piece.node ++ codes " " ++ text_of piece.text
line_text (Ended line) = codes "end " ++ decimal line.node ++ codes " " ++ end_words line.end
line_text (Spent line) = codes "attempts " ++ decimal line.node ++ codes " " ++ decimal line.attempts
line_text Done = codes "done"

-- a line, and the byte that ends it
unfoldable pub whole_line : Line → List ℕ
whole_line line = line_text line ++ 10 ∷ []
