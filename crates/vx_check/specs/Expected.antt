-- The text of what is expected: lines `END when RULE`, and lines that say nothing.
use Rattle.std.specs.Prelude.{◌≡◌, ℕ, ◌+◌, not, List, [], ◌∷◌, ◌++◌, length, Option, Some, None, option_map, Result, Ok, Err, if◌then◌else◌, codes}
use Rattle.std.specs.List.{AllByRecursion, list_all}
use Rattle.std.specs.Str.{bytes_eq}
use Rattle.std.proofs.Common.{Bor}
use Rattle.vx_words.specs.Lines.{is_plain, lines, words}
use Rattle.vx_model.specs.Models.{IsModel}
use Rattle.vx_model.specs.Text.{BadLine, at_line, begins_comment, rule_line, with_statement}
use Rattle.vx_model.specs.declared.fault.ModelFault.{ModelFault}
use Rattle.vx_model.specs.declared.fault.ModelFault.TheVariants as fault
use Rattle.vx_model.specs.declared.statement.Refusal.{Refusal}
use Rattle.vx_model.specs.declared.statement.Refusal.TheVariants as refusal
use Rattle.vx_model.specs.declared.model.Model.{Model}
use Rattle.vx_model.specs.declared.statement.Statement.{Statement}
use Rattle.vx_explain.specs.Read.{options_of}
use Rattle.vx_check.specs.Ends.{begin_an_end, behind_blanks}
use Rattle.vx_check.specs.declared.expected.Expectation.{Expectation}

-- the words before the first `when`, and those behind it
abbrev pub cut_at_when : List (List ℕ) → Option (List (List ℕ) × List (List ℕ))
cut_at_when [] = None
cut_at_when (word ∷ rest) = if bytes_eq word (codes "when") then Some ([], rest) else option_map (λ p. (word ∷ p.0, p.1)) (cut_at_when rest)

-- words with others in front
abbrev pub with_front : List (List ℕ) → List (List ℕ) × List (List ℕ) → List (List ℕ) × List (List ℕ)
with_front front p = (front ++ p.0, p.1)

-- words, and those of a text
abbrev pub with_text : List (List ℕ) → Bor (List ℕ) → List (List ℕ) × List (List ℕ)
with_text end text = (end, words text.now)

-- the model of options with these names, and of no rule
abbrev pub free_model : List (List ℕ) → Model
free_model names = record { options = options_of names; rules = [] }

abbrev pub with_rule : List (List ℕ) → Result Statement ℕ → Result Model ℕ
with_rule names (Ok statement) = Ok (with_statement (free_model names) statement)
with_rule names (Err reason) = Err reason

-- the model of these options that demands a rule of these words, or the reason for which a model would be refused that has it
unfoldable pub demanding : List (List ℕ) → List (List ℕ) → Result Model ℕ
demanding names rule = with_rule names (rule_line (options_of names) (behind_blanks rule))

-- Below, a line is refused by the least reason that applies to it, by the numbers of a model's reasons: 1 no form of line, 2 the words begin no end, 4 no rule or one that nests deeper than 256, 5 an unknown option.
abbrev pub expects : ℕ → List (List ℕ) → Result Model ℕ → Result (Option Expectation) ℕ
expects n end (Ok model) = Ok (Some (record { line = n; end = end; model = model }))
expects n end (Err reason) = Err reason

abbrev pub said_by_parts : List (List ℕ) → ℕ → List ℕ → Option (List (List ℕ) × List (List ℕ)) → Result (Option Expectation) ℕ
said_by_parts names n first None = Err 1
said_by_parts names n first (Some (end, rule)) = if not (begin_an_end (first ∷ end)) then Err 2 else expects n (first ∷ end) (demanding names rule)

-- the first `when` behind the first word ends the words of the end
abbrev pub said_by : List (List ℕ) → ℕ → List ℕ → List (List ℕ) → Result (Option Expectation) ℕ
said_by names n line [] = Ok None
said_by names n line (first ∷ rest) =
    if begins_comment first then Ok None
    else (if not (list_all is_plain line) then Err 1
    else said_by_parts names n first (cut_at_when rest))

-- what a line of this number says: nothing, or an end and where it is expected
unfoldable pub said_of : List (List ℕ) → ℕ → List ℕ → Result (Option Expectation) ℕ
said_of names n line = said_by names n line (words line)

-- what is expected, and what one more line says
abbrev pub with_said : List Expectation → Option Expectation → List Expectation
with_said expected None = expected
with_said expected (Some expectation) = expected ++ expectation ∷ []

unfoldable pub expected_from : List (List ℕ) → ℕ → List Expectation → List (List ℕ) → Result (List Expectation) BadLine
expected_from names n expected [] = Ok expected
expected_from names n expected (line ∷ rest) = at_line n (said_of names n line) (λ said. expected_from names (n + 1) (with_said expected said) rest)

-- what a text expects of the configurations of options with these names, or its first bad line
abbrev pub expected_of : List (List ℕ) → List ℕ → Result (List Expectation) BadLine
expected_of names bytes = expected_from names 1 [] (lines bytes)

-- why a line is refused whose rule a model can't have
abbrev pub reason_of : ModelFault → Refusal
reason_of fault.NoMemory = refusal.NoMemory
reason_of (fault.Line line reason) = refusal.Reason reason

-- the model of an expectation is one of so many options
pub record IsOf (count : ℕ) (expectation : Expectation) : Type 0 where
  pub lawful : IsModel expectation.model
  pub number : length expectation.model.options ≡ count

abbrev pub AreOf : ℕ → List Expectation → Type 0
AreOf count expected = AllByRecursion (IsOf count) expected
