use Rattle.vx_kept_facts.proofs.Runs.{keeps_facts}
use Rattle.vx_kept_states.proofs.WholePrograms as whole_programs
use Rattle.vx_kept_states.proofs.linked_runs_keep_facts.Goals as goal

pub returns : goal.returns
returns c = λ classes options main p holds is. keeps_facts p (whole_programs.linked_are_runnable classes options main p holds is)
