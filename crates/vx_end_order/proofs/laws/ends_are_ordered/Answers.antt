use Rattle.vx_end_order.proofs.EndOrder.{end_equal, end_total}
use Rattle.vx_end_order.proofs.laws.ends_are_ordered.Goals as goal

pub returns-clause-total : goal.returns-clause-total
returns-clause-total c = end_total

pub returns-clause-exact : goal.returns-clause-exact
returns-clause-exact c = end_equal
