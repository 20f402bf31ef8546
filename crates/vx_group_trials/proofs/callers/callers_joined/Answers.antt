use Rattle.vx_space.proofs.Spaces.{Extends-refl}
use Rattle.vx_group.proofs.GroupLaws.{IsGroupIn-later}
use Rattle.vx_group_trials.proofs.Trials.{IsGroupIn-single, called_shapes}
use Rattle.vx_group_trials.proofs.callers.callers_joined.Goals as goal

pub called-requires-clause-group : goal.called-requires-clause-group
called-requires-clause-group g c = IsGroupIn-single _ _ _ c.in_ok-first.ensures.is_first

pub called-requires-2-clause-group : goal.called-requires-2-clause-group
called-requires-2-clause-group g c = IsGroupIn-single _ _ _ c.in_ok-first.ensures.is_second

pub join-requires-clause-first : goal.join-requires-clause-first
join-requires-clause-first g c = IsGroupIn-later (Extends-refl _) c.in_ok-second.ensures.keeps _ c.in_ok-first-2.ensures.group

pub join-requires-clause-shapes : goal.join-requires-clause-shapes
join-requires-clause-shapes g c = called_shapes _ _ _ _ _ _ _ _ c.in_ok-second.second c.in_ok-first.ensures c.in_ok-second.ensures.keeps c.in_ok-first-2.ensures.group c.in_ok-first-2.ensures.shapes c.in_ok-second.ensures.shapes

pub join-requires-clause-disjoint : goal.join-requires-clause-disjoint
join-requires-clause-disjoint g c = rw (c.in_ok-first-2.ensures.path, c.in_ok-second.ensures.path) c.in_ok-first.ensures.apart
