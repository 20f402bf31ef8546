-- The plan of `project`: the order of its questions and of its refusals.
use Rattle.std.specs.Prelude.{ℕ, Bool, List, Option, Some, None, option_map, option_and_then, Ok, Err}
use Rattle.std.specs.declared.result.Result.{Result}
use Rattle.vx_report.specs.declared.report.Report.{Report}
use Rattle.vx_report.specs.Projection.{project, projection_text}
use Rattle.vx_plans.specs.declared.status.Status.{Status}
use Rattle.vx_plans.specs.declared.status.Status.TheVariants.{NotAllowed}
use Rattle.vx_configuration.specs.Configuration.{configuration_of}
use Rattle.vx_plans.specs.Job.{Exactly}
use Rattle.vx_plans.specs.Plan.{Plan, Write, attempt}
use Rattle.vx_inputs.specs.Reports.{read_report}

-- what a report says of a configuration, if it says something
abbrev pub text_at : Report → Option (List Bool) → Option (List ℕ)
text_at report c = option_and_then (λ values. option_map projection_text (project report values)) c

abbrev pub or_not_allowed : Option (List ℕ) → Result (List ℕ) Status
or_not_allowed None = Err NotAllowed
or_not_allowed (Some text) = Ok text

-- the text of the projection of a report at the configuration that a word names; the word names none, or the report says nothing of it, is not allowed
abbrev pub projected : Report → List ℕ → Result (List ℕ) Status
projected report word = or_not_allowed (text_at report (configuration_of report.options word))

-- what is written of a report
abbrev pub project_report : List ℕ → Report → Plan
project_report word report = attempt (projected report word) (λ text. Write (Exactly text))

-- the plan of `project`: the report, and then the configuration
abbrev pub project_plan : List ℕ → List ℕ → Plan
project_plan path word = read_report path (project_report word)
