use Rattle.std.proofs.Common.{ap}
use Rattle.std.specs.Prelude.{◌+◌}
use Rattle.vx_group_states.proofs.PartLaws.{written-gives}
use Rattle.vx_group_states.proofs.answering.written_part.Goals as goal

pub returns : goal.returns
returns g c = λ heap known. written-gives c.args.site.now _ c.args.part c.moved_to-group.result c.args.taken _ c.args.stream c.args.text _ _ (ap (λ frame. frame.position + c.args.site.now.size) c.top_frame.ensures) c.moved_to-group.ensures.same c.moved_to-group.ensures.row c.moved_to-group.ensures.scope c.moved_to-group.ensures.at c.new-outcomes.ensures c.in_ok-push.ensures.ok heap known
