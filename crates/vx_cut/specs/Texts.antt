-- The texts of the parts of a model: its own text with a term more, behind a line of comment.
use Rattle.std.specs.Prelude.{ℕ, ◌+◌, Bool, true, false, List, [], ◌∷◌, ◌++◌, length, ◌&&◌, codes, decimal, if◌then◌else◌}
use Rattle.std.specs.List.{flat_map}
use Rattle.std.specs.Str.{bytes_eq}
use Rattle.vx_words.specs.Lines.{is_line_feed, parts, without_return, words}
use Rattle.vx_model.specs.Models.{names_of}
use Rattle.vx_model.specs.declared.model.Model.{Model}
use Rattle.vx_explain.specs.Text.{term_text}
use Rattle.vx_explain.specs.declared.literal.Literal.{Literal}
use Rattle.vx_cut.specs.Parts.{terms_of}

abbrev pub comment_mark : Bool → List ℕ
comment_mark false = codes "#"
comment_mark true = codes "c"

-- the line of comment before a part: its number and its term
unfoldable pub heading : Bool → Model → ℕ → List Literal → List ℕ
heading dimacs model number term = comment_mark dimacs ++ codes " part " ++ decimal number ++ codes " " ++ term_text (names_of model) term ++ codes "\n"

abbrev pub begins_with_p : List (List ℕ) → Bool
begins_with_p [] = false
begins_with_p (word ∷ rest) = bytes_eq word (codes "p")

-- the line's first word is that of a header
abbrev pub is_header : List ℕ → Bool
is_header line = begins_with_p (words (without_return line))

-- the header of a model with so many clauses more
unfoldable pub header_with : Model → ℕ → List ℕ
header_with model more = codes "p cnf " ++ decimal (length model.options) ++ codes " " ++ decimal (length model.rules + more)

-- a line of the model's text; in DIMACS the header counts so many clauses more
abbrev pub line_with : Bool → Model → ℕ → List ℕ → List ℕ
line_with dimacs model more line = if dimacs && is_header line then header_with model more else line

-- each line of the model's text, ended
unfoldable pub lines_with : Bool → Model → ℕ → List ℕ → List ℕ
lines_with dimacs model more text = flat_map (λ line. line_with dimacs model more line ++ codes "\n") (parts is_line_feed text)

-- a clause of one literal; variables are counted from 1
abbrev pub sign : Bool → List ℕ
sign true = []
sign false = codes "-"

abbrev pub clause_text : Literal → List ℕ
clause_text l = sign l.on ++ decimal (l.option + 1) ++ codes " 0" ++ codes "\n"

-- what demands a term
unfoldable pub demand : Bool → Model → List Literal → List ℕ
demand false model term = codes "rule " ++ term_text (names_of model) term ++ codes "\n"
demand true model term = flat_map clause_text term

-- the part of a term, by its number
abbrev pub part_text : Bool → List ℕ → Model → ℕ → List Literal → List ℕ
part_text dimacs text model number term = heading dimacs model number term ++ lines_with dimacs model (length term) text ++ demand dimacs model term

-- the parts of terms, numbered from a number on
unfoldable pub parts_from : Bool → List ℕ → Model → ℕ → List (List Literal) → List (List ℕ)
parts_from dimacs text model number [] = []
parts_from dimacs text model number (term ∷ rest) = part_text dimacs text model number term ∷ parts_from dimacs text model (number + 1) rest

-- the parts of a model's text by chosen options
abbrev pub parts_of : Bool → List ℕ → Model → List Bool → List (List ℕ)
parts_of dimacs text model chosen = parts_from dimacs text model 1 (terms_of model chosen)
