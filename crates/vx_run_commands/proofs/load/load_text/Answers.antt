use Rattle.vx_plans.specs.Load.{load_model, load_program}
use Rattle.vx_run_commands.proofs.Loaded.{summed}
use Rattle.vx_run_commands.proofs.load.load_text.Goals as goal

pub returns : goal.returns
returns c = summed c.args.seed (load_model c.args.options) (load_program c.args.seed c.args.options) c.in_ok-report.report _ c.in_ok-report.ensures c.in_ok-summary_text.ensures
