use Rattle.vx_group.proofs.GroupLaws.{IsGroupIn-group}
use Rattle.vx_group_trials.proofs.Trials.{IsGroupIn-inside, parts_shapes, parts_apart}
use Rattle.vx_group_trials.proofs.callers.rejoined.Goals as goal

pub split-requires-clause-group : goal.split-requires-clause-group
split-requires-clause-group g c = IsGroupIn-group _ _ _ c.in_ok-group.ensures.group

pub join-requires-clause-first : goal.join-requires-clause-first
join-requires-clause-first g c = IsGroupIn-inside _ c.in_ok-first.ensures.extends _ _ _ c.in_ok-group.ensures.group c.in_ok-first.ensures.inside

pub join-requires-clause-second : goal.join-requires-clause-second
join-requires-clause-second g c = IsGroupIn-inside _ c.in_ok-first.ensures.extends _ _ _ c.in_ok-group.ensures.group c.in_ok-first.ensures.outside

pub join-requires-clause-shapes : goal.join-requires-clause-shapes
join-requires-clause-shapes g c = parts_shapes _ _ _ _ _ _ _ _ c.in_ok-first.ensures.inside c.in_ok-first.ensures.outside

pub join-requires-clause-disjoint : goal.join-requires-clause-disjoint
join-requires-clause-disjoint g c = parts_apart _ _ _ _ _ _ c.in_ok-first.ensures.inside c.in_ok-first.ensures.outside
