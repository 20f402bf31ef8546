use Rattle.vx_starting.proofs.Started.{ended-made}
use Rattle.vx_starting.proofs.starting.ended_start.Goals as goal

pub returns-clause-ok : goal.returns-clause-ok
returns-clause-ok g c =
    ended-made c.args.program.now c.in_ok-heap.ensures.extends c.args.allowed c.args.limit c.args.end c.in_ok-heap.heap c.new-2.result c.new-3.result c.new-4.result.items c.push.new.self.items c.new-ends.result.items c.push-2.new.self.items c.new-spent.result.items c.requires.start c.requires.over c.in_ok-heap.ensures.first c.new-2.ensures c.new-3.ensures c.new-4.ensures.items c.new-ends.ensures.items c.in_ok-push.ensures.items c.new-spent.ensures.items c.in_ok-push-2.ensures.items
