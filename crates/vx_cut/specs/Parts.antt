-- The parts into which chosen options divide what a model allows.
use Rattle.std.specs.Prelude.{ℕ, ◌+◌, Bool, true, false, List, [], ◌∷◌, ◌++◌, length, map, filter, ◌&&◌}
use Rattle.std.specs.List.{list_any}
use Rattle.vx_model.specs.Models.{is_allowed}
use Rattle.vx_model.specs.declared.model.Model.{Model}
use Rattle.vx_count.specs.Settings.{settings}
use Rattle.vx_explain.specs.Between.{with_literal}
use Rattle.vx_explain.specs.Rules.{literal_rule, term_holds, term_rule}
use Rattle.vx_explain.specs.declared.literal.Literal.{Literal}

-- The settings of the chosen options, each as a term; the values say of the options from one on which are chosen. Off stands before on, and the first option changes slowest.
unfoldable pub sides : ℕ → List Bool → List (List Literal)
sides option [] = [] ∷ []
sides option (false ∷ rest) = sides (option + 1) rest
sides option (true ∷ rest) = with_literal option false (sides (option + 1) rest) ++ with_literal option true (sides (option + 1) rest)

-- the model allows a configuration at which the term holds
abbrev pub is_met : Model → List Literal → Bool
is_met model term = list_any (λ c. is_allowed model c && term_holds term c) (settings (length model.options))

-- the terms of the parts: a setting that no allowed configuration has is left out
abbrev pub terms_of : Model → List Bool → List (List Literal)
terms_of model chosen = filter (is_met model) (sides 0 chosen)

-- the model with a term more: one rule, or in DIMACS a clause for each literal
abbrev pub with_term : Bool → Model → List Literal → Model
with_term false model term = record { options = model.options; rules = model.rules ++ term_rule term ∷ [] }
with_term true model term = record { options = model.options; rules = model.rules ++ map literal_rule term }
