-- The text of explanations: a head, for each piece and each end a line with its title, and behind those that follow one another under one node its rule and its example, and a last line.
use Rattle.std.specs.Prelude.{ℕ, Bool, true, false, ◌&&◌, List, [], ◌∷◌, ◌++◌, Option, Some, None, codes, decimal, nat_eq, slice_get, if◌then◌else◌}
use Rattle.std.specs.List.{flat_map}
use Rattle.vx_list.specs.Places.{item_or}
use Rattle.vx_cover.specs.Text.{configuration_text}
use Rattle.vx_explain.specs.declared.literal.Literal.{Literal}
use Rattle.vx_explain.specs.declared.explained.Explained.{Explained}
use Rattle.vx_explain.specs.declared.explained.Explanation.{Explanation}
use Rattle.vx_explain.specs.declared.explained.Told.{Told}
use Rattle.vx_explain.specs.declared.rule.Rule.{Rule}
use Rattle.vx_explain.specs.declared.rule.Rule.TheVariants.{AnyOf, NoneOf}
use Rattle.vx_explain.specs.Rules.{only, opposite}

abbrev pub mark : Bool → List ℕ
mark true = []
mark false = codes "!"

abbrev pub literal_text : List (List ℕ) → Literal → List ℕ
literal_text names l = mark l.on ++ item_or names l.option []

abbrev pub more_literals : List (List ℕ) → List Literal → List ℕ
more_literals names ls = flat_map (λ l. codes " & " ++ literal_text names l) ls

unfoldable pub term_text : List (List ℕ) → List Literal → List ℕ
term_text names [] = codes "true"
term_text names (l ∷ ls) = literal_text names l ++ more_literals names ls

abbrev pub more_terms : List (List ℕ) → List (List Literal) → List ℕ
more_terms names ts = flat_map (λ t. codes " | " ++ term_text names t) ts

-- a rule of the language of models that a term holds
unfoldable pub rule_text : List (List ℕ) → List (List Literal) → List ℕ
rule_text names [] = codes "false"
rule_text names (t ∷ ts) = term_text names t ++ more_terms names ts

-- a rule of the language of models that a term doesn't hold: of one literal, that its opposite does
abbrev pub denied_text : List (List ℕ) → List Literal → Option Literal → List ℕ
denied_text names term None = codes "!(" ++ term_text names term ++ codes ")"
denied_text names term (Some l) = literal_text names (opposite l)

abbrev pub denial_text : List (List ℕ) → List Literal → List ℕ
denial_text names term = denied_text names term (only term)

abbrev pub more_denials : List (List ℕ) → List (List Literal) → List ℕ
more_denials names ts = flat_map (λ t. codes " & " ++ denial_text names t) ts

-- that no term does
unfoldable pub denials_text : List (List ℕ) → List (List Literal) → List ℕ
denials_text names [] = codes "true"
denials_text names (t ∷ ts) = denial_text names t ++ more_denials names ts

abbrev pub spelled_rule : List (List ℕ) → Rule → List ℕ
spelled_rule names (AnyOf terms) = rule_text names terms
spelled_rule names (NoneOf terms) = denials_text names terms

-- the rule, or the node where there is no short one
abbrev pub when_text : List (List ℕ) → ℕ → Option Rule → List ℕ
when_text names node None = codes "node " ++ decimal node
when_text names node (Some rule) = spelled_rule names rule

abbrev pub example_text : List (List ℕ) → Option (List Bool) → List ℕ
example_text names None = []
example_text names (Some c) = codes "example " ++ configuration_text names c ++ codes "\n"

-- what is told of a node
unfoldable pub told_text : List (List ℕ) → ℕ → Option Told → List ℕ
told_text names node None = []
told_text names node (Some t) = codes "when " ++ when_text names node t.rule ++ codes "\n" ++ example_text names t.example

-- a piece is followed by one under the same node
unfoldable pub goes_on : Explained → List Explained → Bool
goes_on e [] = false
goes_on e (next ∷ later) = (e.subject.piece && next.subject.piece) && nat_eq e.subject.node next.subject.node

-- what is told behind a title: nothing where another one under the same node follows
unfoldable pub told_behind : List Told → Bool → ℕ → Option Told
told_behind told follows place = if follows then None else slice_get told place

-- a title, and behind the last title of pieces that follow one another under one node what is told of it
abbrev pub explained_text : List (List ℕ) → List Told → Explained → List Explained → List ℕ
explained_text names told e later = e.subject.title ++ codes "\n" ++ told_text names e.subject.node (told_behind told (goes_on e later) e.place)

abbrev pub all_text : List (List ℕ) → List Told → List Explained → List ℕ
all_text names told [] = []
all_text names told (e ∷ later) = explained_text names told e later ++ all_text names told later

unfoldable pub explanation_text : List (List ℕ) → Explanation → List ℕ
explanation_text names e = codes "varexj explain 2\n" ++ all_text names e.told.items e.explained.items ++ codes "done\n"
