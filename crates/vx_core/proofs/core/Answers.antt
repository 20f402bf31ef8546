use Rattle.vx_core.proofs.CoreRows.{has_all}
use Rattle.vx_core.proofs.core.Goals as goal

pub returns-clause-classes : goal.returns-clause-classes
returns-clause-classes c = rw c.of.ensures ((has_all _ c.in_ok-put_errors.ensures).0)

pub returns-clause-natives : goal.returns-clause-natives
returns-clause-natives c = rw c.of-2.ensures ((has_all _ c.in_ok-put_errors.ensures).1)
