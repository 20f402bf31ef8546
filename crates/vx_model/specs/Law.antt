-- The reader of rules and their grammar.
use Rattle.std.specs.Prelude.{◌≡◌, ◌↔◌, List, Some}
use Rattle.vx_model.specs.Formula.{Formula}
use Rattle.vx_model.specs.Grammar.{IsRule}
use Rattle.vx_model.specs.Parser.{parsed}
use Rattle.vx_model.specs.declared.token.Token.{Token}

-- what is read from tokens is just what the grammar makes of them
abbrev pub ReadsTheGrammar : Type 0
ReadsTheGrammar = (tokens : List Token) (rule : Formula) → IsRule tokens rule ↔ (parsed tokens ≡ Some rule)
