use Rattle.std.proofs.Common.{◌+◌, arith, drop}
use Rattle.vx_java.specs.Machine.{Go, at_position}
use Rattle.vx_space.proofs.Spaces.{Extends-refl}
use Rattle.vx_group_states.proofs.EndingLaws.{HasPast-part}
use Rattle.vx_group_states.proofs.Gathering.{IsPartOf-group}
use Rattle.vx_ready.specs.Initialising.{stopped_by}
use Rattle.vx_ready.proofs.Going.{going-gives, part_operands}
use Rattle.vx_fields.proofs.statics.put_going.Goals as goal

pub put_part-requires-clause-group : goal.put_part-requires-clause-group
put_part-requires-clause-group g c = IsPartOf-group _ _ _ c.args.group _ c.in_ok-going.ensures.going

pub put_part-requires-clause-past : goal.put_part-requires-clause-past
put_part-requires-clause-past g c = HasPast-part c.args.site.now _ _ _ c.args.group _ c.in_ok-going.ensures.going c.requires.past

pub put_part-requires-clause-operand : goal.put_part-requires-clause-operand
put_part-requires-clause-operand g c = omega (arith, c.requires.operand, part_operands _ _ _ c.args.group c.in_ok-going.going c.in_ok-going.ensures.going)

pub returns-clause-gives : goal.returns-clause-gives
returns-clause-gives g c = λ heap.
    let site = c.args.site.now in
    let start = g.S.Space.sets c.args.space.now in
    let later = g.S.Space.sets c.stop_others.new.space in
    rw c.in_ok-append.ensures.ok (going-gives site.program.now (start.test c.args.readiness.now.proceeds) c.args.group c.in_ok-going.going (stopped_by site c.args.class.0 start c.args.needs c.args.readiness.now.fails) (λ _ _ s. Go (at_position s (s.top.position + site.size) (drop 1 s.top.operands))) _ _ heap c.in_ok-going.ensures.extends c.in_ok-going.ensures.going (c.in_ok-going.ensures.others heap) (Extends-refl later) (c.in_ok-made.ensures heap))
