-- The ends that words begin, and those that are as they should be.
use Rattle.std.specs.Prelude.{ℕ, ℤ, pos, negsuc, Bool, true, false, ◌&&◌, ◌||◌, ◌==◌, if◌then◌else◌, List, [], ◌∷◌, ◌++◌, is_some, codes}
use Rattle.std.specs.List.{flat_map}
use Rattle.std.specs.Str.{bytes_eq}
use Rattle.vx_words.specs.Lines.{words}
use Rattle.vx_value.specs.declared.end.End.{End}
use Rattle.vx_value.specs.declared.end.End.TheVariants.{Return, Exit, Uncaught, Unsupported, Illegal, Unfinished}
use Rattle.vx_report.specs.Lines.{end_words}
use Rattle.vx_report_line.specs.Parsing.{line_in}

abbrev pub is_zero : ℤ → Bool
is_zero (pos n) = n == 0
is_zero (negsuc n) = false

-- the program came to its end: it returned, or it left with the code 0
abbrev pub passes : End → Bool
passes Return = true
passes (Exit code) = is_zero code
passes (Uncaught class) = false
passes (Unsupported word what place) = false
passes (Illegal place) = false
passes Unfinished = false

-- how bad an end is, the worst first: faults of the program are an exception, an exit and a broken rule; behind them stand what the machine leaves out, what isn't known, and what came to its end
abbrev pub rank : End → ℕ
rank (Uncaught class) = 0
rank (Exit code) = if is_zero code then 5 else 1
rank (Illegal place) = 2
rank (Unsupported word what place) = 3
rank Unfinished = 4
rank Return = 5

-- some words stand first among others
abbrev pub begin : List (List ℕ) → List (List ℕ) → Bool
begin [] others = true
begin (word ∷ rest) [] = false
begin (word ∷ rest) (other ∷ others) = bytes_eq word other && begin rest others

-- words fit an end where they are the first of its words, as a report spells them
abbrev pub fits : List (List ℕ) → End → Bool
fits line end = begin line (words (end_words end))

-- each word behind a blank
abbrev pub behind_blanks : List (List ℕ) → List ℕ
behind_blanks ws = flat_map (λ word. 32 ∷ word) ws

-- with these bytes behind them some words are a line of a report that tells an end
abbrev pub is_whole : List (List ℕ) → List ℕ → Bool
is_whole ws missing = is_some (line_in (codes "end 1" ++ behind_blanks ws ++ missing))

-- some words are the first ones of an end: it is whole, or a code, a class, a place, or what is left out is still missing
abbrev pub begin_an_end : List (List ℕ) → Bool
begin_an_end ws = is_whole ws [] || is_whole ws (codes " 0") || is_whole ws (codes " -") || is_whole ws (codes " - -") || is_whole ws (codes " float - -")
