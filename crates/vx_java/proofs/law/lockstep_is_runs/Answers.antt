use Rattle.vx_java.proofs.Projecting.{lock_report_projects}
use Rattle.vx_java.proofs.law.lockstep_is_runs.Goals as goal

pub returns : goal.returns
returns c = lock_report_projects
