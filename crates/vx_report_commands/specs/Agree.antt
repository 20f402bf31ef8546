-- The plan of `agree`: the order of its questions and of its refusals.
use Rattle.std.specs.Prelude.{◌≡◌, ℕ, List, if◌then◌else◌, Option, Some, None}
use Rattle.vx_agree.specs.Options.{are_same_names}
use Rattle.vx_agree.specs.Text.{IsAgreementText}
use Rattle.vx_report.specs.declared.report.Report.{Report}
use Rattle.vx_plans.specs.declared.status.Status.{Status}
use Rattle.vx_plans.specs.declared.status.Status.TheVariants.{Unlike}
use Rattle.vx_plans.specs.Job.{Agreement}
use Rattle.vx_plans.specs.Plan.{Plan, Write, unless}
use Rattle.vx_inputs.specs.Reports.{read_report}

-- two reports are compared where they have the same options
abbrev pub unlike : Report → Report → Option Status
unlike one other = if are_same_names one.options other.options then None else Some Unlike

-- what is written of two reports
abbrev pub agree_reports : Report → Report → Plan
agree_reports one other = unless (unlike one other) (Write (Agreement one other))

-- the plan of `agree`: the one report, then the other, which is read again where it is the same file, then the options
abbrev pub agree_plan : List ℕ → List ℕ → Plan
agree_plan one other = read_report one (λ report. read_report other (agree_reports report))

-- two reports have the same options, and the text shows where they agree
pub record GivesAgreement (one other : Report) (text : List ℕ) : Type 0 where
  pub alike : unlike one other ≡ None
  pub shows : IsAgreementText one other text
