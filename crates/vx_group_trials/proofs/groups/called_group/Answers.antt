use Rattle.vx_group_trials.proofs.Trials.{IsGroupIn-single}
use Rattle.vx_group_trials.proofs.groups.called_group.Goals as goal

pub called-requires-clause-group : goal.called-requires-clause-group
called-requires-clause-group g c = IsGroupIn-single _ _ _ c.in_ok-group.ensures.single
