-- The text of a feature model.
use Rattle.std.specs.Prelude.{ℕ, ◌+◌, List, [], ◌∷◌, ◌++◌, length, map, Bool, false, not, ◌&&◌, ◌||◌, ◌==◌, nat_le, if◌then◌else◌, codes, Option, Some, None, Result, Ok, Err}
use Rattle.std.specs.List.{list_all, list_any}
use Rattle.std.specs.Str.{bytes_eq}
use Rattle.vx_words.specs.Lines.{lines, words, is_plain, behind_word}
use Rattle.vx_model.specs.Formula.{Formula}
use Rattle.vx_model.specs.Tokens.{tokens}
use Rattle.vx_words.specs.Names.{is_name}
use Rattle.vx_model.specs.Parser.{parsed}
use Rattle.vx_model.specs.declared.token.Token.{Token}
use Rattle.vx_model.specs.declared.token.Token.TheVariants as token
use Rattle.vx_model.specs.declared.model.Model.{Model}
use Rattle.vx_model.specs.declared.model.OptionField.{OptionField}
use Rattle.vx_model.specs.declared.model.FieldPlace.{FieldPlace}
use Rattle.vx_model.specs.declared.statement.Statement.{Statement}
use Rattle.vx_model.specs.declared.statement.Statement.TheVariants as statement

-- the first word of a comment begins with #
abbrev pub begins_comment : List ℕ → Bool
begins_comment [] = false
begins_comment (b ∷ bs) = b == 35

-- in the name of a class a . stands for a /
abbrev pub slash : ℕ → ℕ
slash b = if b == 46 then 47 else b

abbrev pub is_same_place : Option FieldPlace → Option FieldPlace → Bool
is_same_place (Some a) (Some b) = bytes_eq a.class b.class && bytes_eq a.field b.field
is_same_place a b = false

-- the option has this name, or this field
abbrev pub clashes : List ℕ → Option FieldPlace → OptionField → Bool
clashes name place option = bytes_eq option.name name || is_same_place option.place place

-- Below, a line is refused by the least reason that applies to it: 1 no form of line, 2 no name, 3 a name or field that is
-- taken, 4 no rule, 5 an unknown option, 6 more than 64 options.
unfoldable pub declared : List OptionField → List ℕ → Option FieldPlace → Result Statement ℕ
declared options name place =
    if not (is_name name) then Err 2
    else (if list_any (clashes name place) options then Err 3
    else (if nat_le 64 (length options) then Err 6
    else Ok (statement.Declares (record { name = name; place = place }))))

-- a line that begins with the word option, by the words behind it
abbrev pub option_line : List OptionField → List (List ℕ) → Result Statement ℕ
option_line options (name ∷ []) = declared options name None
option_line options (name ∷ class ∷ field ∷ []) = declared options name (Some (record { class = map slash class; field = field }))
option_line options rest = Err 1

-- a name that none of n options has
abbrev pub is_unknown : ℕ → Token → Bool
is_unknown n (token.Name option) = nat_le n option
is_unknown n t = false

abbrev pub demanded : ℕ → List Token → Option Formula → Result Statement ℕ
demanded n ts None = Err 4
demanded n ts (Some rule) = if list_any (is_unknown n) ts then Err 5 else Ok (statement.Demands rule)

-- a line that begins with the word rule, by the text behind it
unfoldable pub rule_line : List OptionField → List ℕ → Result Statement ℕ
rule_line options text = demanded (length options) (tokens options text) (parsed (tokens options text))

abbrev pub line_by : List OptionField → List ℕ → List (List ℕ) → Result Statement ℕ
line_by options line [] = Ok statement.Nothing
line_by options line (first ∷ rest) =
    if begins_comment first then Ok statement.Nothing
    else (if not (list_all is_plain line) then Err 1
    else (if bytes_eq first (codes "option") then option_line options rest
    else (if bytes_eq first (codes "rule") then rule_line options (behind_word line)
    else Err 1)))

-- what a line says after these options
unfoldable pub statement_of : List OptionField → List ℕ → Result Statement ℕ
statement_of options line = line_by options line (words line)

-- a model and what one more line says
abbrev pub with_statement : Model → Statement → Model
with_statement model statement.Nothing = model
with_statement model (statement.Declares option) = record { options = model.options ++ option ∷ []; rules = model.rules }
with_statement model (statement.Demands rule) = record { options = model.options; rules = model.rules ++ rule ∷ [] }

-- a bad line, from 1 on, and the reason
pub record BadLine : Type 0 where
  pub line : ℕ
  pub reason : ℕ

abbrev pub at_line : {A B : Type 0} → ℕ → Result A ℕ → (A → Result B BadLine) → Result B BadLine
at_line n (Ok x) f = f x
at_line n (Err reason) f = Err (record { line = n; reason = reason })

-- the model of these lines, of which the first has number n, behind what the lines before them said
unfoldable pub lines_of : ℕ → Model → List (List ℕ) → Result Model BadLine
lines_of n model [] = Ok model
lines_of n model (line ∷ rest) = at_line n (statement_of model.options line) (λ s. lines_of (n + 1) (with_statement model s) rest)

abbrev pub empty : Model
empty = record { options = []; rules = [] }

-- the model that a text spells, or its first bad line
abbrev pub model_of : List ℕ → Result Model BadLine
model_of bytes = lines_of 1 empty (lines bytes)
