-- Rules in the form of terms: one of them holds, or none does; and a term holds where all its literals do.
use Rattle.std.specs.Prelude.{ℕ, ◌<◌, ◌≤◌, Bool, true, false, not, List, [], ◌∷◌, ◌++◌, length, map, nat_eq, nat_le, Option, Some, None, if◌then◌else◌}
use Rattle.std.specs.List.{AllByRecursion, flat_map, list_all, list_any}
use Rattle.vx_space.specs.Config.{value_of}
use Rattle.vx_model.specs.Formula.{Formula}
use Rattle.vx_model.specs.Formula as tree
use Rattle.vx_model.specs.Grammar.{conjunction, disjunction}
use Rattle.vx_explain.specs.declared.literal.Literal.{Literal}
use Rattle.vx_explain.specs.declared.rule.Rule.{Rule}
use Rattle.vx_explain.specs.declared.rule.Rule.TheVariants.{AnyOf, NoneOf}

abbrev pub literal_holds : Literal → List Bool → Bool
literal_holds l c = if l.on then value_of c l.option else not (value_of c l.option)

abbrev pub term_holds : List Literal → List Bool → Bool
term_holds term c = list_all (λ l. literal_holds l c) term

abbrev pub some_term_holds : List (List Literal) → List Bool → Bool
some_term_holds terms c = list_any (λ term. term_holds term c) terms

abbrev pub some_literal_holds : List Literal → List Bool → Bool
some_literal_holds literals c = list_any (λ l. literal_holds l c) literals

-- the same as a rule of a model: a single part stands by itself
abbrev pub literal_rule : Literal → Formula
literal_rule l = if l.on then tree.Named l.option else tree.Not (tree.Named l.option)

abbrev pub term_rule : List Literal → Formula
term_rule term = conjunction (map literal_rule term)

abbrev pub rule_of : List (List Literal) → Formula
rule_of terms = disjunction (map term_rule terms)

-- each literal is of one of so many options
abbrev pub AreNamed : ℕ → List Literal → Type 0
AreNamed options literals = AllByRecursion (λ (l : Literal). l.option < options) literals

abbrev pub AreOf : ℕ → List (List Literal) → Type 0
AreOf options terms = AllByRecursion (λ term. AllByRecursion (λ (l : Literal). l.option < options) term) terms

-- the literal that holds just where this one doesn't
abbrev pub opposite : Literal → Literal
opposite l = record { option = l.option; on = not l.on }

-- the item of a list of one
abbrev pub only : {A : Type 0} → List A → Option A
only [] = None
only (x ∷ []) = Some x
only (x ∷ y ∷ ys) = None

-- that a term doesn't hold; of a single literal, that its opposite does
abbrev pub denied : List Literal → Option Literal → Formula
denied term None = tree.Not (term_rule term)
denied term (Some l) = literal_rule (opposite l)

abbrev pub denial : List Literal → Formula
denial term = denied term (only term)

abbrev pub terms_in : Rule → List (List Literal)
terms_in (AnyOf terms) = terms
terms_in (NoneOf terms) = terms

abbrev pub rule_holds : Rule → List Bool → Bool
rule_holds (AnyOf terms) c = some_term_holds terms c
rule_holds (NoneOf terms) c = not (some_term_holds terms c)

-- the same as a rule of a model
abbrev pub formula_of : Rule → Formula
formula_of (AnyOf terms) = rule_of terms
formula_of (NoneOf terms) = conjunction (map denial terms)

-- ---- the rule that none of some terms holds

-- those of some terms that are of one literal, or the others
abbrev pub one_of_those : Bool → List Literal → List (List Literal)
one_of_those single term = if (if single then nat_eq (length term) 1 else not (nat_eq (length term) 1)) then term ∷ [] else []

abbrev pub those : Bool → List (List Literal) → List (List Literal)
those single terms = flat_map (λ term. one_of_those single term) terms

-- of each literal of a term the opposite, as a term
abbrev pub opposites : List Literal → List (List Literal)
opposites term = map (λ l. opposite l ∷ []) term

-- that a single term of at most 32 literals doesn't hold is that the opposite of one of them does; else the terms of one literal stand first
abbrev pub none_by : List (List Literal) → Option (List Literal) → Rule
none_by terms None = NoneOf (those true terms ++ those false terms)
none_by terms (Some term) = if nat_le (length term) 32 then AnyOf (opposites term) else NoneOf (those true terms ++ those false terms)

abbrev pub none_of : List (List Literal) → Rule
none_of terms = none_by terms (only terms)
