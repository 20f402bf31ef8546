use Rattle.std.proofs.Common.{◌∙◌, sym}
use Rattle.std.specs.Ordering.{nat_cmp}
use Rattle.vx_cond.proofs.SideLaws.{length-within}
use Rattle.vx_container_trials.proofs.Trials.{parts_apart}
use Rattle.vx_container_trials.proofs.rows.parted_and_joined.Goals as goal

pub join-requires-clause-lengths : goal.join-requires-clause-lengths
join-requires-clause-lengths g c =
    let first = length-within nat_cmp (g.S.Space.sets c.sides.new.space) _ c.in_ok-row.row _ _ c.in_ok-first.ensures.ok in
    let second = length-within nat_cmp (g.S.Space.sets c.restrict.new.space) _ c.in_ok-row.row _ _ c.in_ok-second.ensures.ok in
    first ∙ sym second

pub join-requires-clause-disjoint : goal.join-requires-clause-disjoint
join-requires-clause-disjoint g c = parts_apart c.in_ok-first.ensures.extends c.in_ok-second.ensures.extends _ _ _ _ _ c.in_ok-on.ensures.first c.in_ok-on.ensures.second c.in_ok-on.ensures.apart c.in_ok-first.ensures.scope c.in_ok-second.ensures.scope
