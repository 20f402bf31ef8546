-- The least of four rules for a set of which only the configurations in a scope count: of the terms of the set and of those of its complement, by the recursion alone and by literals first.
use Rattle.std.specs.Prelude.{ℕ, ◌+◌, Bool, true, false, not, ◌&&◌, ◌||◌, List, [], ◌∷◌, ◌++◌, length, map, filter, nat_eq, nat_lt, Option, Some, None, option_map, if◌then◌else◌}
use Rattle.std.specs.List.{flat_map}
use Rattle.vx_explain.specs.declared.literal.Literal.{Literal}
use Rattle.vx_explain.specs.declared.rule.Rule.{Rule}
use Rattle.vx_explain.specs.declared.rule.Rule.TheVariants.{AnyOf, NoneOf}
use Rattle.vx_explain.specs.Between.{if_few, terms_between}
use Rattle.vx_explain.specs.Literals.{literals_first}
use Rattle.vx_explain.specs.Rules.{none_of, only}

-- ---- how long a rule is

-- what is counted of a rule: each literal of its text, and each bracket that is denied; and whether it stands without `!`
abbrev pub term_signs : List Literal → List Bool
term_signs term = map (λ (l : Literal). l.on) term

abbrev pub denied_signs : List Literal → Option Literal → List Bool
denied_signs term None = false ∷ term_signs term
denied_signs term (Some l) = not l.on ∷ []

abbrev pub denial_signs : List Literal → List Bool
denial_signs term = denied_signs term (only term)

abbrev pub signs : Rule → List Bool
signs (AnyOf terms) = flat_map (λ term. term_signs term) terms
signs (NoneOf terms) = flat_map (λ term. denial_signs term) terms

abbrev pub marks : List Bool → List Bool
marks signs = filter not signs

-- fewer, or as many and fewer `!`
abbrev pub are_fewer : List Bool → List Bool → Bool
are_fewer one other = nat_lt (length one) (length other) || (nat_eq (length one) (length other) && nat_lt (length (marks one)) (length (marks other)))

abbrev pub is_less : Rule → Rule → Bool
is_less one other = are_fewer (signs one) (signs other)

-- ---- the least one

-- the one that is there; of two the lesser one, or else the first
abbrev pub lesser : Option Rule → Option Rule → Option Rule
lesser None other = other
lesser (Some one) None = Some one
lesser (Some one) (Some other) = if is_less other one then Some other else Some one

-- the rule that one of some terms holds, or that none does; none where there are no terms
abbrev pub made : Bool → Option (List (List Literal)) → Option Rule
made denies terms = if denies then option_map none_of terms else option_map AnyOf terms

-- the least of a rule and of the two that terms between two sets make, if they are at most 32: by the recursion alone, and by literals first
abbrev pub least_with : Bool → ℕ → (List Bool → Bool) → (List Bool → Bool) → Option Rule → Option Rule
least_with denies options least most rule = lesser (lesser rule (made denies (if_few (terms_between options 0 least most)))) (made denies (if_few (literals_first options least most)))

-- those of the set, and those of its complement
unfoldable pub least_rule : ℕ → (List Bool → Bool) → (List Bool → Bool) → Option Rule
least_rule options least most = least_with true options (λ c. not (most c)) (λ c. not (least c)) (least_with false options least most None)
