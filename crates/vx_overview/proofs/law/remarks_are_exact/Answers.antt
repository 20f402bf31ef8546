use Rattle.vx_overview.proofs.Remarked.{exact}
use Rattle.vx_overview.proofs.law.remarks_are_exact.Goals as goal

pub returns : goal.returns
returns c = exact
