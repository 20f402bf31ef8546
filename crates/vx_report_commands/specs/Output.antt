-- The plan of `output`: the order of its questions and of its refusals.
use Rattle.std.specs.Prelude.{ℕ, Bool, List, Option, option_and_then}
use Rattle.std.specs.declared.result.Result.{Result}
use Rattle.vx_configuration.specs.Configuration.{configuration_of}
use Rattle.vx_count.specs.Output.{output_text}
use Rattle.vx_report.specs.declared.report.Report.{Report}
use Rattle.vx_value.specs.declared.end.Stream.{Stream}
use Rattle.vx_inputs.specs.Reports.{read_report}
use Rattle.vx_plans.specs.Job.{Exactly}
use Rattle.vx_plans.specs.Plan.{Plan, Write, attempt}
use Rattle.vx_plans.specs.declared.status.Status.{Status}
use Rattle.vx_report_commands.specs.Project.{or_not_allowed}

-- what a configuration prints on a stream, if a report says something of it
abbrev pub output_at : Report → Stream → Option (List Bool) → Option (List ℕ)
output_at report stream c = option_and_then (output_text report stream) c

-- what the configuration that a word names prints on a stream; the word names none, or the report says nothing of it, is not allowed
abbrev pub printed : Report → Stream → List ℕ → Result (List ℕ) Status
printed report stream word = or_not_allowed (output_at report stream (configuration_of report.options word))

-- what is written of a report
abbrev pub print_report : Stream → List ℕ → Report → Plan
print_report stream word report = attempt (printed report stream word) (λ text. Write (Exactly text))

-- the plan of `output`: the report, and then the configuration
abbrev pub output_plan : List ℕ → List ℕ → Stream → Plan
output_plan path word stream = read_report path (print_report stream word)
