-- What is said of the pieces and ends of a report: under which rule there is one, and a configuration that has it.
use Rattle.std.specs.Prelude.{◌≡◌, ℕ, Bool, true, false, List, ◌++◌, map, length, Option, Some, IfSome, MatchOption, slice_get}
use Rattle.std.specs.List.{AllByRecursion}
use Rattle.vx_bdd_tools.specs.Nodes.{holds}
use Rattle.vx_report.specs.declared.report.Report.{Report}
use Rattle.vx_picture.specs.declared.subject.Subject.{Subject}
use Rattle.vx_picture.specs.Subjects.{end_subjects, subjects}
use Rattle.vx_cover.specs.Covers.{IsRun, has_end}
use Rattle.vx_explain.specs.declared.explained.Asked.{Asked}
use Rattle.vx_explain.specs.declared.explained.Asked.TheVariants.{Ends, Everything}
use Rattle.vx_explain.specs.declared.explained.Explained.{Explained}
use Rattle.vx_explain.specs.declared.explained.Explanation.{Explanation}
use Rattle.vx_explain.specs.declared.explained.Told.{Told}
use Rattle.vx_explain.specs.declared.rule.Rule.{Rule}
use Rattle.vx_explain.specs.Scopes.{IsRuleWithin, rule_within}

-- at most 32 terms, whose rule is true just where the node holds, among the configurations that have an end
abbrev pub IsRule : Report → ℕ → Rule → Type 0
IsRule r node rule = IsRuleWithin (length r.options) (holds r.nodes node) (has_end r) rule

-- a configuration that has an end, at which the node holds
pub record IsExample (r : Report) (node : ℕ) (c : List Bool) : Type 0 where
  pub run : IsRun r c
  pub holds_here : holds r.nodes node c ≡ true

-- the node holds no configuration that has an end
abbrev pub HasNone : Report → ℕ → Type 0
HasNone r node = (c : List Bool) → has_end r c ≡ true → holds r.nodes node c ≡ false

-- the least rule of a node among the configurations that have an end, if one has at most 32 terms
abbrev pub rule_for : Report → ℕ → Option Rule
rule_for r node = rule_within (length r.options) (holds r.nodes node) (has_end r)

-- the rule and an example of a node
pub record IsTold (r : Report) (node : ℕ) (t : Told) : Type 0 where
  pub rule : t.rule ≡ rule_for r node
  pub is_rule : IfSome t.rule (IsRule r node)
  pub example : MatchOption t.example (HasNone r node) (IsExample r node)

-- what stands at a place is told of the node
pub record IsToldAt (r : Report) (all : List Told) (node place : ℕ) : Type 0 where
  pub told : Told
  pub there : slice_get all place ≡ Some told
  pub is : IsTold r node told

-- each of some pieces and ends is explained
pub record AreExplainedOf (r : Report) (subjects : List Subject) (e : Explanation) : Type 0 where
  pub all : map (λ (x : Explained). x.subject) e.explained.items ≡ subjects
  pub each : AllByRecursion (λ (x : Explained). IsToldAt r e.told.items x.subject.node x.place) e.explained.items

-- all pieces and ends, or the ends alone
abbrev pub subjects_asked : Asked → Report → List Subject
subjects_asked Everything r = subjects r
subjects_asked Ends r = end_subjects r

-- each that is asked for is explained
abbrev pub AreExplained : Asked → Report → Explanation → Type 0
AreExplained asked r e = AreExplainedOf r (subjects_asked asked r) e

-- the places at which nodes are told
pub record KeepsTold (r : Report) (all : List Told) (place_of : ℕ → Option ℕ) : Type 0 where
  pub each : (node place : ℕ) → place_of node ≡ Some place → IsToldAt r all node place

-- a node is told at a place, and what was told before stays
pub record IsFound (r : Report) (before after : List Told) (place_of : ℕ → Option ℕ) (node place : ℕ) : Type 0 where
  pub more : List Told
  pub grows : after ≡ before ++ more
  pub keeps : KeepsTold r after place_of
  pub there : IsToldAt r after node place
