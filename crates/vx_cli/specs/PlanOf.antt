-- The plan of each command.
use Rattle.vx_cli.specs.Command.{Command, Run, Project, Output, Tell, Agree, Join, Asm, Load, Verify, Retell, Cut, Check, Compare, Doctor, Show}
use Rattle.vx_check_commands.specs.Check.{check_plan}
use Rattle.vx_check_commands.specs.Compare.{compare_plan}
use Rattle.vx_cut_command.specs.Cut.{cut_plan}
use Rattle.vx_doctor_command.specs.Doctor.{doctor_plan}
use Rattle.vx_report_commands.specs.Agree.{agree_plan}
use Rattle.vx_report_commands.specs.Assemble.{asm_plan}
use Rattle.vx_report_commands.specs.Join.{join_plan}
use Rattle.vx_plans.specs.Job.{Exactly, Summary}
use Rattle.vx_cli.specs.Pages.{page_text}
use Rattle.vx_plans.specs.Plan.{Plan, Write}
use Rattle.vx_report_commands.specs.Output.{output_plan}
use Rattle.vx_report_commands.specs.Project.{project_plan}
use Rattle.vx_run_commands.specs.Retell.{retell_plan}
use Rattle.vx_run_commands.specs.Run.{run_plan}
use Rattle.vx_report_commands.specs.Tell.{tell_plan}
use Rattle.vx_run_commands.specs.Verify.{verify_plan}

abbrev pub plan_of : Command → Plan
plan_of (Run watched folder model main limit version) = run_plan folder model main limit version
plan_of (Project report configuration) = project_plan report configuration
plan_of (Output report configuration stream) = output_plan report configuration stream
plan_of (Tell telling report) = tell_plan telling report
plan_of (Agree report other) = agree_plan report other
plan_of (Join reports) = join_plan reports
plan_of (Asm source) = asm_plan source
plan_of (Load seed options) = Write (Summary seed options)
plan_of (Verify folder model main) = verify_plan folder model main
plan_of (Retell retelling folder model main limit configuration) = retell_plan retelling folder model main limit configuration
plan_of (Cut model choice report) = cut_plan model choice report
plan_of (Check report expected) = check_plan report expected
plan_of (Compare report other) = compare_plan report other
plan_of (Doctor folder model main) = doctor_plan folder model main
plan_of (Show page) = Write (Exactly (page_text page))
