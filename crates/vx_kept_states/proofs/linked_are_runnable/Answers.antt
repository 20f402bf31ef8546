use Rattle.vx_kept_states.proofs.WholePrograms as whole_programs
use Rattle.vx_kept_states.proofs.linked_are_runnable.Goals as goal

pub returns : goal.returns
returns c = whole_programs.linked_are_runnable
