use Rattle.std.proofs.Common.{arith}
use Rattle.vx_group_trials.proofs.tops.spent.Goals as goal

pub spend-requires-clause-group : goal.spend-requires-clause-group
spend-requires-clause-group g c = c.in_ok-group.ensures.single.is_group

pub spend-requires-clause-below : goal.spend-requires-clause-below
spend-requires-clause-below g c = λ d t. let none = c.in_ok-group.ensures.fresh d in omega (arith, none)
