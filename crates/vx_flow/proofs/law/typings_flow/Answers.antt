use Rattle.vx_flow.proofs.Flows.{typings_flow}
use Rattle.vx_flow.proofs.law.typings_flow.Goals as goal

pub returns : goal.returns
returns c = typings_flow
