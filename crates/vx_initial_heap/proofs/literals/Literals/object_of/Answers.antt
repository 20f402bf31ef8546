use Rattle.vx_initial_heap.proofs.Gathering.{no_literal}
use Rattle.vx_initial_heap.proofs.literals.Literals.object_of.Goals as goal

pub returns-in-None : goal.returns-in-None
returns-in-None c = no_literal c.args.self.now c.args.pool.now c.args.entry.now c.in_ok-literal.field-0 c.in_ok-literal.ensures c.in-None.is
