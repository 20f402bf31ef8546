-- The printed rule is read as the rule.
use Rattle.std.specs.Prelude.{◌≡◌, ℕ, List, ◌∷◌, map, length, None, Ok}
use Rattle.vx_words.specs.Names.{AreOptionNames}
use Rattle.vx_model.specs.Text.{rule_line}
use Rattle.vx_model.specs.declared.model.OptionField.{OptionField}
use Rattle.vx_model.specs.declared.statement.Statement.TheVariants as statement
use Rattle.vx_explain.specs.declared.rule.Rule.{Rule}
use Rattle.vx_explain.specs.Rules.{AreOf, formula_of, terms_in}
use Rattle.vx_explain.specs.Text.{spelled_rule}

-- options of these names, without fields
abbrev pub options_of : List (List ℕ) → List OptionField
options_of names = map (λ name. record { name = name; place = None }) names

-- behind the word `rule` in a model with these options the text demands the rule
abbrev pub RulesAreReadBack : Type 0
RulesAreReadBack = (names : List (List ℕ)) (rule : Rule) → AreOptionNames names → AreOf (length names) (terms_in rule) → rule_line (options_of names) (32 ∷ spelled_rule names rule) ≡ Ok (statement.Demands (formula_of rule))
