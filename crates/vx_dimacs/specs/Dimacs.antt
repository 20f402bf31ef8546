-- Feature models as DIMACS CNF.
use Rattle.std.specs.Prelude.{ℕ, ◌+◌, ◌-◌, List, [], ◌∷◌, ◌++◌, length, map, Bool, true, false, not, ◌&&◌, ◌||◌, ◌==◌, nat_le, nat_lt, min, if◌then◌else◌, codes, Option, Some, None, is_some, unwrap_or, slice_get, position, zero, suc, ◌/◌, ◌%◌, Result, Ok, Err}
use Rattle.std.specs.List.{list_all, list_any}
use Rattle.std.specs.Option.{option_map}
use Rattle.std.specs.Str.{bytes_eq}
use Rattle.std.specs.Char.{is_ascii_digit}
use Rattle.vx_words.specs.Lines.{lines, words}
use Rattle.vx_words.specs.Decimal.{decimal}
use Rattle.vx_model.specs.Formula.{Formula}
use Rattle.vx_model.specs.Formula as tree
use Rattle.vx_model.specs.Grammar.{disjunction}
use Rattle.vx_words.specs.Names.{is_name}
use Rattle.vx_model.specs.Text.{clashes, slash, BadLine, at_line}
use Rattle.vx_model.specs.declared.model.Model.{Model}
use Rattle.vx_model.specs.declared.model.OptionField.{OptionField}
use Rattle.vx_model.specs.declared.model.FieldPlace.{FieldPlace}
use Rattle.vx_dimacs.specs.declared.number.Mark.{Mark}
use Rattle.vx_dimacs.specs.declared.number.Mark.TheVariants as mark
use Rattle.vx_dimacs.specs.declared.line.Header.{Header}
use Rattle.vx_dimacs.specs.declared.line.Line.{Line}
use Rattle.vx_dimacs.specs.declared.line.Line.TheVariants as line

-- the number that a word spells, or cap where it is greater
abbrev pub up_to : ℕ → List ℕ → Option ℕ
up_to cap word = option_map (min cap) (decimal word)

abbrev pub is_negative : List ℕ → Bool
is_negative [] = false
is_negative (b ∷ bs) = b == 45

-- a word without the - in front
abbrev pub unsigned : List ℕ → List ℕ
unsigned [] = []
unsigned (b ∷ bs) = if b == 45 then bs else b ∷ bs

-- an optional - and decimal digits without leading zero
abbrev pub is_number : List ℕ → Bool
is_number word = is_some (up_to 65 (unsigned word))

abbrev pub marked : ℕ → Bool → Option ℕ → Option Mark
marked variables negative None = None
marked variables negative (Some n) =
    if n == 0 then Some mark.End
    else (if nat_lt variables n then None
    else (if negative then Some (mark.Off (n - 1)) else Some (mark.On (n - 1))))

-- a whole number of at most the number of variables; 0 ends a clause
abbrev pub mark_of : ℕ → List ℕ → Option Mark
mark_of variables word = marked variables (is_negative word) (up_to 65 (unsigned word))

-- Below, a line is refused by the least reason that applies to it: 3 a variable, name or field is named twice; 6 more than
-- 64 variables; 7 the header is missing where a number stands, is repeated or is malformed; 8 a word that is no such
-- number; 9 more clauses than the header says.

-- what the lines so far said; the names are in the order of their lines, and literals of a clause that is not ended stand apart
pub record State : Type 0 where
  pub header : Option Header
  pub variables : List ℕ
  pub names : List OptionField
  pub rules : List Formula
  pub literals : List Formula

-- v and digits
abbrev pub is_numbered : List ℕ → Bool
is_numbered [] = false
is_numbered (b ∷ bs) = b == 118 && (not (length bs == 0) && list_all is_ascii_digit bs)

-- A name, but v and digits only where these are the variable's own.
unfoldable pub is_variable_name : List ℕ → List ℕ → Bool
is_variable_name number name = is_name name && (not (is_numbered name) || bytes_eq name (118 ∷ number))

-- a byte from ! to ~
abbrev pub is_visible : ℕ → Bool
is_visible b = nat_le 33 b && nat_le b 126

abbrev pub named_as : State → ℕ → List ℕ → Option FieldPlace → Result Line ℕ
named_as st variable name place =
    if list_any (λ k. k == variable) st.variables || list_any (clashes name place) st.names then Err 3
    else Ok (line.Names (record { variable = variable; option = record { name = name; place = place } }))

abbrev pub named : ℕ → State → Option ℕ → List ℕ → List ℕ → Option FieldPlace → Result Line ℕ
named most st None number name place = Ok line.Nothing
named most st (Some variable) number name place =
    if (nat_le 1 variable && nat_le variable 64) && (nat_le variable most && is_variable_name number name) then named_as st variable name place
    else Ok line.Nothing

-- a line that begins with the word c, by the words behind it; most is the number of variables
unfoldable pub comment_line : ℕ → State → List (List ℕ) → Result Line ℕ
comment_line most st (number ∷ name ∷ []) = named most st (up_to 65 number) number name None
comment_line most st (number ∷ name ∷ class ∷ field ∷ []) =
    if list_all is_visible class && list_all is_visible field then named most st (up_to 65 number) number name (Some (record { class = map slash class; field = field }))
    else Ok line.Nothing
comment_line most st rest = Ok line.Nothing

abbrev pub clauses_of : ℕ → Option ℕ → Result Line ℕ
clauses_of variables None = Err 7
clauses_of variables (Some clauses) = if nat_lt 1000000 clauses then Err 7 else Ok (line.Heads (record { variables = variables; clauses = clauses }))

abbrev pub header_clauses : ℕ → List (List ℕ) → Result Line ℕ
header_clauses variables (clauses ∷ []) = clauses_of variables (up_to 1000001 clauses)
header_clauses variables rest = Err 7

abbrev pub header_variables : Option Header → Option ℕ → List (List ℕ) → Result Line ℕ
header_variables before None rest = Err 7
header_variables before (Some variables) rest =
    if nat_lt 64 variables then Err 6
    else (if is_some before then Err 7 else header_clauses variables rest)

-- the number of variables in a header, by the words behind p; 65 stands for more than 64
abbrev pub told : List (List ℕ) → Option ℕ
told (format ∷ variables ∷ rest) = if bytes_eq format (codes "cnf") then up_to 65 variables else None
told rest = None

-- what stands behind the first two words
abbrev pub behind_two : List (List ℕ) → List (List ℕ)
behind_two (a ∷ b ∷ rest) = rest
behind_two rest = []

-- a line that begins with the word p, by the words behind it
unfoldable pub header_line : Option Header → List (List ℕ) → Result Line ℕ
header_line before rest = header_variables before (told rest) (behind_two rest)

abbrev pub front_mark : Option Mark → Option (List Mark) → Option (List Mark)
front_mark None rest = None
front_mark (Some m) None = None
front_mark (Some m) (Some ms) = Some (m ∷ ms)

-- the numbers that words are, for so many variables, or None where one of them is none
abbrev pub marks_of : ℕ → List (List ℕ) → Option (List Mark)
marks_of variables [] = Some []
marks_of variables (word ∷ rest) = front_mark (mark_of variables word) (marks_of variables rest)

abbrev pub numbered : Option (List Mark) → Result Line ℕ
numbered None = Err 8
numbered (Some ms) = Ok (line.Numbers ms)

-- a line of numbers
unfoldable pub numbers_line : Option Header → List (List ℕ) → Result Line ℕ
numbers_line None all = if list_any is_number all then Err 7 else Err 8
numbers_line (Some header) all = numbered (marks_of header.variables all)

abbrev pub line_by : ℕ → State → List (List ℕ) → Result Line ℕ
line_by most st [] = Ok line.Nothing
line_by most st (first ∷ rest) =
    if bytes_eq first (codes "c") then comment_line most st rest
    else (if bytes_eq first (codes "p") then header_line st.header rest
    else numbers_line st.header (first ∷ rest))

-- what a line says behind the lines before it
unfoldable pub line_of : ℕ → State → List ℕ → Result Line ℕ
line_of most st text = line_by most st (words text)

-- one more number: a literal of the clause, or its end
abbrev pub with_mark : State → Mark → State
with_mark st mark.End = record st { rules = st.rules ++ disjunction st.literals ∷ []; literals = [] }
with_mark st (mark.On option) = record st { literals = st.literals ++ tree.Named option ∷ [] }
with_mark st (mark.Off option) = record st { literals = st.literals ++ tree.Not (tree.Named option) ∷ [] }

unfoldable pub with_marks : State → List Mark → State
with_marks st [] = st
with_marks st (m ∷ ms) = with_marks (with_mark st m) ms

abbrev pub is_nothing : List Formula → Bool
is_nothing [] = true
is_nothing (f ∷ fs) = false

-- how many clauses have begun
abbrev pub begun : State → ℕ
begun st = length st.rules + (if is_nothing st.literals then 0 else 1)

abbrev pub has_too_many : Option Header → ℕ → Bool
has_too_many None n = false
has_too_many (Some header) n = nat_lt header.clauses n

abbrev pub within_header : State → Result State ℕ
within_header st = if has_too_many st.header (begun st) then Err 9 else Ok st

-- the lines so far, and one more
abbrev pub with_line : State → Line → Result State ℕ
with_line st line.Nothing = Ok st
with_line st (line.Names naming) = Ok (record st { variables = st.variables ++ naming.variable ∷ []; names = st.names ++ naming.option ∷ [] })
with_line st (line.Heads header) = Ok (record st { header = Some header })
with_line st (line.Numbers ms) = within_header (with_marks st ms)

-- a decimal number below 100
abbrev pub numeral : ℕ → List ℕ
numeral n = if nat_lt n 10 then (48 + n) ∷ [] else (48 + n / 10) ∷ (48 + n % 10) ∷ []

-- a variable without a name line
abbrev pub plain_option : ℕ → OptionField
plain_option variable = record { name = 118 ∷ numeral variable; place = None }

abbrev pub option_at : List OptionField → ℕ → Option ℕ → OptionField
option_at names variable None = plain_option variable
option_at names variable (Some i) = unwrap_or (slice_get names i) (plain_option variable)

-- the option of a variable
abbrev pub option_for : State → ℕ → OptionField
option_for st variable = option_at st.names variable (position (λ k. k == variable) st.variables)

-- the options of the variables 1 to n
unfoldable pub options_upto : State → ℕ → List OptionField
options_upto st zero = []
options_upto st (suc n) = options_upto st n ++ option_for st (suc n) ∷ []

abbrev pub ended : State → Option Header → Result Model ℕ
ended st None = Err 7
ended st (Some header) =
    if not (is_nothing st.literals) || nat_lt (length st.rules) header.clauses then Err 9
    else Ok (record { options = options_upto st header.variables; rules = st.rules })

-- the model of all lines, or what is missing at their end
unfoldable pub end_of : State → Result Model ℕ
end_of st = ended st st.header

-- the model of these lines, of which the first has number n, behind what the lines before them said
unfoldable pub lines_of : ℕ → ℕ → State → List (List ℕ) → Result Model BadLine
lines_of most n st [] = at_line n (end_of st) (λ m. Ok m)
lines_of most n st (text ∷ rest) = at_line n (line_of most st text) (λ l. at_line n (with_line st l) (λ new. lines_of most (n + 1) new rest))

abbrev pub told_by : List (List ℕ) → Option ℕ → Option ℕ
told_by [] other = other
told_by (first ∷ rest) other = if bytes_eq first (codes "p") then Some (unwrap_or (told rest) 65) else other

-- The number of variables that the first line of the word p tells. Where it tells none, no number is too great.
abbrev pub first_told : List (List ℕ) → Option ℕ
first_told [] = None
first_told (text ∷ rest) = told_by (words text) (first_told rest)

abbrev pub nothing_yet : State
nothing_yet = record { header = None; variables = []; names = []; rules = []; literals = [] }

-- the model that a text spells, or its first bad line
abbrev pub dimacs_of : List ℕ → Result Model BadLine
dimacs_of bytes = lines_of (unwrap_or (first_told (lines bytes)) 65) 1 nothing_yet (lines bytes)
