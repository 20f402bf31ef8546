use Rattle.std.proofs.Common.{◌∙◌, sym}
use Rattle.vx_container_trials.proofs.frames.frames_joined.Goals as goal

pub join-requires-clause-shapes : goal.join-requires-clause-shapes
join-requires-clause-shapes g c = c.in_ok-first.ensures.shape ∙ sym c.in_ok-second.ensures.shape

pub join-requires-clause-disjoint : goal.join-requires-clause-disjoint
join-requires-clause-disjoint g c = rw (c.in_ok-first.ensures.scope, c.in_ok-second.ensures.scope) c.in_ok-on.ensures.apart
