-- The plan of `compare`: the order of its questions and of its refusals.
use Rattle.std.specs.Prelude.{◌≡◌, ℕ, List, length, Option, Some, None, nat_eq, nat_le, if◌then◌else◌}
use Rattle.vx_compare.specs.Differ.{differing_seen}
use Rattle.vx_compare.specs.Names.{all_names}
use Rattle.vx_compare.specs.Text.{IsComparisonText}
use Rattle.vx_inputs.specs.Reports.{read_report}
use Rattle.vx_plans.specs.Job.{Comparison}
use Rattle.vx_plans.specs.Plan.{Plan, Say, unless}
use Rattle.vx_plans.specs.declared.answer.Answer.{Answer}
use Rattle.vx_plans.specs.declared.status.Status.{Status}
use Rattle.vx_plans.specs.declared.status.Status.TheVariants.{Differing, Done, Unlike}
use Rattle.vx_report.specs.declared.report.Report.{Report}

-- two reports are compared where they have at most 64 options together
abbrev pub too_many : Report → Report → Option Status
too_many one other = if nat_le (length (all_names one.options other.options)) 64 then None else Some Unlike

-- the status behind the text, by how many configurations differ
abbrev pub last_of : ℕ → Status
last_of differ = if nat_eq differ 0 then Done else Differing

-- what is said of two reports
abbrev pub compare_reports : Report → Report → Plan
compare_reports one other = unless (too_many one other) (Say (Comparison one other) (last_of (differing_seen one other)))

-- the plan of `compare`: the one report, then the other, which is read again where it is the same file, then how many options they have
abbrev pub compare_plan : List ℕ → List ℕ → Plan
compare_plan one other = read_report one (λ report. read_report other (compare_reports report))

-- two reports have few options together, the text is that of their comparison, and the status is behind it
pub record GivesComparison (one other : Report) (answer : Answer) : Type 0 where
  pub few : too_many one other ≡ None
  pub shows : IsComparisonText one other answer.text.items
  pub last : answer.last ≡ last_of (differing_seen one other)
