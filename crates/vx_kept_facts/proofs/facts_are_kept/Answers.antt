use Rattle.vx_kept_facts.proofs.Runs.{keeps_facts}
use Rattle.vx_kept_facts.proofs.facts_are_kept.Goals as goal

pub returns : goal.returns
returns c = keeps_facts
