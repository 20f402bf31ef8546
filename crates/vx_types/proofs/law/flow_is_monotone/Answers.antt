use Rattle.vx_types.proofs.Flows.{flow_below}
use Rattle.vx_types.proofs.law.flow_is_monotone.Goals as goal

pub returns : goal.returns
returns c = flow_below
