-- The plan of `join`: the order of its questions and of its refusals.
use Rattle.std.specs.Prelude.{◌≡◌, ℕ, Bool, List, [], ◌∷◌, ◌&&◌, nat_eq, if◌then◌else◌, Option, Some, None}
use Rattle.std.specs.List.{list_all}
use Rattle.vx_agree.specs.Options.{are_same_names}
use Rattle.vx_join.specs.Joined.{is_joinable}
use Rattle.vx_join.specs.Text.{IsJoinedText}
use Rattle.vx_report.specs.declared.report.Report.{Report}
use Rattle.vx_plans.specs.declared.status.Status.{Status}
use Rattle.vx_plans.specs.declared.status.Status.TheVariants.{NotJoinable, Unlike}
use Rattle.vx_plans.specs.Job.{Join}
use Rattle.vx_plans.specs.Plan.{Plan, Write, unless}
use Rattle.vx_inputs.specs.Reports.{read_reports}

-- two reports are over the same options, of one limit and one version
abbrev pub are_like : Report → Report → Bool
are_like one other = are_same_names one.options other.options && (nat_eq one.limit other.limit && nat_eq one.version other.version)

-- why reports have no join: one differs from the first, or no report says what they say
abbrev pub unjoined : List Report → Option Status
unjoined [] = Some NotJoinable
unjoined (first ∷ others) = if list_all (are_like first) others then (if is_joinable (first ∷ others) then None else Some NotJoinable) else Some Unlike

-- what is written of some reports
abbrev pub join_reports : List Report → Plan
join_reports reports = unless (unjoined reports) (Write (Join reports))

-- the plan of `join`: each report in its turn, then whether they are alike, then whether they have a join
abbrev pub join_plan : List (List ℕ) → Plan
join_plan paths = read_reports join_reports [] paths

-- the reports have a join, and the text is that of it
pub record GivesJoin (reports : List Report) (text : List ℕ) : Type 0 where
  pub joinable : unjoined reports ≡ None
  pub shows : IsJoinedText reports text
