-- The words of a line. A word that begins with a quote is a text: the blanks between its quotes are part of it.
use Rattle.std.specs.Prelude.{ℕ, ◌+◌, List, [], ◌∷◌, ◌++◌, length, take, drop, slice_index, position, unwrap_or, min, Bool, false, not, ◌==◌, ◌||◌, Ok, if◌then◌else◌}
use Rattle.std.specs.List.{list_all}
use Rattle.vx_list.specs.Places.{item_or}
use Rattle.vx_words.specs.Lines.{is_blank, is_plain}
use Rattle.vx_source_words.specs.Reading.{Read, ◌>>=◌, check, steps}
use Rattle.vx_source_words.specs.Texts.{quote_place}

-- the word of a place, or no bytes behind the last one
abbrev pub word_at : List (List ℕ) → ℕ → List ℕ
word_at words i = item_or words i []

-- the place of the first blank, or the length where there is none
abbrev pub blank_place : List ℕ → ℕ
blank_place line = unwrap_or (position is_blank line) (length line)

-- a line without the blanks in front
abbrev pub unindented : List ℕ → List ℕ
unindented line = drop (unwrap_or (position (λ b. not (is_blank b)) line) (length line)) line

-- whether a word, or what has one in front, begins as a text
abbrev pub begins_text : List ℕ → Bool
begins_text line = slice_index line 0 == 34

-- a text ends at the first blank behind its last quote, or with the line; another word at the first blank
unfoldable pub word_end : List ℕ → ℕ
word_end line =
    if begins_text line
    then (let closed = min (length line) (quote_place false (drop 1 line) + 2) in closed + blank_place (drop closed line))
    else blank_place line

-- the first word of what has no blank in front, behind the words before it; outside of texts its bytes are plain
unfoldable pub first_word : List (List ℕ) → List ℕ → Read (List (List ℕ) × List ℕ)
first_word front line =
    check (begins_text line || list_all is_plain (take (word_end line) line)) 1
    (Ok (front ++ take (word_end line) line ∷ [], drop (word_end line) line))

-- one word more, unless the line is at its end
unfoldable pub word_step : List (List ℕ) × List ℕ → Read (List (List ℕ) × List ℕ)
word_step s = if length (unindented s.1) == 0 then Ok (s.0, []) else first_word s.0 (unindented s.1)

-- the words of a line, each of which has a byte at least
unfoldable pub tokens : List ℕ → Read (List (List ℕ))
tokens line = steps word_step ([], line) (length line) >>= λ s. Ok s.0
