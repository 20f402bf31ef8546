use Rattle.vx_group_trials.proofs.Trials.{AreHalves-split}
use Rattle.vx_group_trials.proofs.groups.halves.Goals as goal

pub split-requires-clause-group : goal.split-requires-clause-group
split-requires-clause-group g c = c.in_ok-whole.ensures.single.is_group

pub returns : goal.returns
returns g c = AreHalves-split _ _ _ _ _ _ c.in_ok-whole.ensures.single c.in_ok-parts.ensures.inside c.in_ok-parts.ensures.outside
