-- The plan of a command that tells of a report: the order of its questions and of its refusals.
use Rattle.std.specs.Prelude.{◌≡◌, ℕ, List, if◌then◌else◌, Option, Some, None}
use Rattle.vx_people.specs.Tellings.{IsToldText, is_told}
use Rattle.vx_people.specs.declared.telling.Telling.{Telling}
use Rattle.vx_report.specs.declared.report.Report.{Report}
use Rattle.vx_inputs.specs.Reports.{read_report}
use Rattle.vx_plans.specs.Job.{Told}
use Rattle.vx_plans.specs.Plan.{Plan, Write, unless}
use Rattle.vx_plans.specs.declared.status.Status.{Status}
use Rattle.vx_plans.specs.declared.status.Status.TheVariants.{NotAllowed}

-- nothing is told of a piece that a report doesn't have
abbrev pub untold : Telling → Report → Option Status
untold telling report = if is_told telling report then None else Some NotAllowed

-- what is written of a report
abbrev pub tell_report : Telling → Report → Plan
tell_report telling report = unless (untold telling report) (Write (Told telling report))

-- the plan of a command that tells of a report: the report, and then what is told of it
abbrev pub tell_plan : Telling → List ℕ → Plan
tell_plan telling path = read_report path (tell_report telling)

-- this can be told of a report, and the text tells it
pub record GivesTelling (telling : Telling) (report : Report) (text : List ℕ) : Type 0 where
  pub is_there : untold telling report ≡ None
  pub shows : IsToldText telling report text
