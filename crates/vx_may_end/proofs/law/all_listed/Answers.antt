use Rattle.vx_may_end.proofs.Runs.{linked_told}
use Rattle.vx_may_end.proofs.law.all_listed.Goals as goal

pub returns : goal.returns
returns c = linked_told
