use Rattle.vx_cut.specs.Texts.{demand}
use Rattle.vx_cut.proofs.text.put_demand.Goals as goal

pub returns-then-dimacs-clause-ok : goal.returns-then-dimacs-clause-ok
unfolding demand
returns-then-dimacs-clause-ok c = rw c.if-dimacs.true c.put_clauses.ensures.ok

pub returns-else-dimacs-clause-ok : goal.returns-else-dimacs-clause-ok
unfolding demand
returns-else-dimacs-clause-ok c = rw c.if-dimacs.false c.put_rule.ensures.ok
