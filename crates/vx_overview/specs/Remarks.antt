-- Comments of a DIMACS text that begin as a name line does, and are none (own).
use Rattle.std.specs.List.{list_all}
use Rattle.std.specs.Prelude.{Bool, List, None, Ok, Option, Some, [], bytes_eq, codes, decimal, false, if◌then◌else◌, is_some, nat_le, not, true, ℕ, ◌&&◌, ◌++◌, ◌+◌, ◌∷◌, ◌≡◌}
use Rattle.std.specs.declared.result.Result.{Result}
use Rattle.vx_dimacs.specs.Dimacs.{State, comment_line, is_variable_name, is_visible, up_to}
use Rattle.vx_dimacs.specs.declared.line.Line.{Line}
use Rattle.vx_dimacs.specs.declared.line.Line.TheVariants.{Nothing}
use Rattle.vx_value.specs.Words.{text_of}
use Rattle.vx_words.specs.Lines.{lines, words}
use Rattle.vx_words.specs.Names.{is_name}
use Rattle.vx_overview.specs.declared.remarks.Remark.{Remark}
use Rattle.vx_overview.specs.declared.remarks.Remark.TheVariants.{NoName, NoVariable, NotPlain, OtherVariable, WordCount}

-- what stands behind the name: nothing, or a class and a field
abbrev pub remark_behind : List (List ℕ) → Option Remark
remark_behind [] = None
remark_behind (class ∷ field ∷ []) = if list_all is_visible class && list_all is_visible field then None else Some NotPlain
remark_behind rest = Some WordCount

-- the first that fails, of so many variables; None where the line names a variable
abbrev pub remark_of : (most variable : ℕ) → (number name : List ℕ) → List (List ℕ) → Option Remark
remark_of most variable number name rest =
    if not ((nat_le 1 variable && nat_le variable 64) && nat_le variable most) then Some NoVariable
    else if not (is_name name) then Some NoName
    else if not (is_variable_name number name) then Some OtherVariable
    else remark_behind rest

abbrev pub remark_if : ℕ → Bool → (number name : List ℕ) → List (List ℕ) → Option ℕ → Option Remark
remark_if most true number name rest (Some variable) = remark_of most variable number name rest
remark_if most _ number name rest _ = None

-- the words of a line: c, a number, another word, and what stands behind them
abbrev pub remark_in : ℕ → List (List ℕ) → Option Remark
remark_in most (first ∷ number ∷ name ∷ rest) = remark_if most (bytes_eq first (codes "c")) number name rest (up_to 65 number)
remark_in most all = None

abbrev pub reason_of : Remark → List ℕ
reason_of NoVariable = codes "the number is that of no variable"
reason_of NoName = codes "the third word is no name"
reason_of OtherVariable = codes "the third word is v and other digits"
reason_of WordCount = codes "the line has neither three words nor five"
reason_of NotPlain = codes "the class or the field isn't printable"

unfoldable pub place_line : ℕ → List ℕ → List ℕ
place_line line text = codes "comment line " ++ decimal line ++ codes ": " ++ text_of text ++ codes "\n"

unfoldable pub reason_line : Remark → List ℕ
reason_line remark = codes "reason: " ++ reason_of remark ++ codes "\n"

-- a line with its number, and why it is no name line
abbrev pub remark_lines : ℕ → List ℕ → Option Remark → List ℕ
remark_lines line text None = []
remark_lines line text (Some remark) = place_line line text ++ reason_line remark

-- the lines from a number on
unfoldable pub remarks_from : ℕ → (line : ℕ) → List (List ℕ) → List ℕ
remarks_from most line [] = []
remarks_from most line (text ∷ rest) = remark_lines line text (remark_in most (words text)) ++ remarks_from most (line + 1) rest

-- of a text, for a model of so many variables
abbrev pub remarks_text : (most : ℕ) → List ℕ → List ℕ
remarks_text most bytes = remarks_from most 1 (lines bytes)

-- a line says nothing
abbrev pub says_nothing : Result Line ℕ → Bool
says_nothing (Ok Nothing) = true
says_nothing _ = false

-- behind c, a number and a word a comment is remarked exactly where it says nothing, whatever the lines before it said
abbrev pub RemarksAreExact : Type 0
RemarksAreExact =
    (most variable : ℕ) (before : State) (number name : List ℕ) (rest : List (List ℕ)) → up_to 65 number ≡ Some variable
    → is_some (remark_of most variable number name rest) ≡ says_nothing (comment_line most before (number ∷ name ∷ rest))
