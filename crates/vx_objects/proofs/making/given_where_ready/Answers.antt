use Rattle.std.proofs.Common.{arith}
use Rattle.vx_group_states.proofs.EndingLaws.{HasPast-part}
use Rattle.vx_group_states.proofs.Gathering.{IsPartOf-group}
use Rattle.vx_ready.proofs.Going.{part_operands}
use Rattle.vx_objects.proofs.MakingRows.{given-gives}
use Rattle.vx_objects.proofs.making.given_where_ready.Goals as goal

pub pushed_part-requires-clause-group : goal.pushed_part-requires-clause-group
pushed_part-requires-clause-group g c = IsPartOf-group _ _ _ c.args.group _ c.in_ok-going.ensures.going

pub pushed_part-requires-clause-past : goal.pushed_part-requires-clause-past
pushed_part-requires-clause-past g c = HasPast-part c.args.site.now _ _ _ c.args.group _ c.in_ok-going.ensures.going c.requires.past

pub pushed_part-requires-clause-few : goal.pushed_part-requires-clause-few
pushed_part-requires-clause-few g c = omega (arith, c.requires.few, part_operands _ _ _ c.args.group c.in_ok-going.going c.in_ok-going.ensures.going)

pub returns-clause-gives : goal.returns-clause-gives
returns-clause-gives g c = λ heap v held.
    rw c.in_ok-append.ensures.ok (given-gives c.args.site.now (g.S.Space.sets c.args.space.now) (g.S.Space.sets c.stop_others.new.space) c.args.group c.in_ok-going.going c.args.class.0 c.args.needs c.args.readiness.now c.args.reference c.in_ok-going.outcomes.items.items c.in_ok-pushed.pushed.items.items heap c.in_ok-going.ensures.extends c.in_ok-going.ensures.going (c.in_ok-going.ensures.others heap) v held (c.in_ok-pushed.ensures heap))
