use Rattle.std.proofs.Common.{subst}
use Rattle.std.specs.Prelude.{IfOk}
use Rattle.vx_java.specs.Machine.{State}
use Rattle.vx_noted.specs.Runs.{IsBegun}
use Rattle.vx_plain_start.specs.Beginning.{started}
use Rattle.vx_noted.proofs.beginning.begin.Goals as goal

pub returns : goal.returns
returns c = subst (λ (s : State). IfOk c.begin_from.result (IsBegun c.args.program.now (started c.args.program.now s))) c.in_ok-before.ensures c.begin_from.ensures
