-- The text of a check: a head, how many configurations have an end and how many of them fail, a line for each way to fail, and a last line.
use Rattle.std.specs.Prelude.{◌≡◌, ℕ, Bool, List, ◌++◌, length, Option, Some, None, codes, decimal}
use Rattle.std.specs.List.{flat_map}
use Rattle.vx_report.specs.declared.report.Report.{Report}
use Rattle.vx_cover.specs.Covers.{has_end}
use Rattle.vx_cover.specs.Text.{configuration_text}
use Rattle.vx_count.specs.Settings.{number}
use Rattle.vx_explain.specs.declared.rule.Rule.{Rule}
use Rattle.vx_explain.specs.Text.{spelled_rule}
use Rattle.vx_check.specs.Failing.{failing}
use Rattle.vx_check.specs.Ways.{IsSortedOf, told_all, ways_of}
use Rattle.vx_check.specs.declared.expected.Expectation.{Expectation}
use Rattle.vx_check.specs.declared.told.Told.{Told}
use Rattle.vx_check.specs.declared.told.Checked.{Checked}

-- the line that isn't met; a dash where none speaks
abbrev pub number_text : Option ℕ → List ℕ
number_text None = codes "-"
number_text (Some n) = decimal n

-- the rule; a dash where there is no short one
abbrev pub given_text : List (List ℕ) → Option Rule → List ℕ
given_text names None = codes "-"
given_text names (Some rule) = spelled_rule names rule

-- how many, one of them, the line, the end and the rule
abbrev pub told_line : List (List ℕ) → Told → List ℕ
told_line names t = decimal t.number ++ codes " " ++ configuration_text names t.example ++ codes " " ++ number_text t.line ++ codes " " ++ t.end ++ codes " when " ++ given_text names t.rule ++ codes "\n"

unfoldable pub checked_text : List (List ℕ) → Checked → List ℕ
checked_text names checked = codes "varexj check 1\nof " ++ decimal checked.of ++ codes "\nfailing " ++ decimal checked.failing ++ codes "\n" ++ flat_map (told_line names) checked.told ++ codes "done\n"

-- how many have an end, how many fail, and the ways in which they do
pub record IsChecked (r : Report) (expected : List Expectation) (checked : Checked) : Type 0 where
  pub of : checked.of ≡ number (length r.options) (has_end r)
  pub failing : checked.failing ≡ failing r expected
  pub told : IsSortedOf (told_all r (ways_of r expected)) checked.told

-- the text is that of a check of a report
pub record IsCheckText (r : Report) (expected : List Expectation) (text : List ℕ) : Type 0 where
  pub checked : Checked
  pub is_checked : IsChecked r expected checked
  pub spelled : text ≡ checked_text r.options checked
