use Rattle.vx_starting.proofs.Started.{begun-made}
use Rattle.vx_starting.proofs.starting.begun_state.Goals as goal

pub returns : goal.returns
returns g c = begun-made c.args.heap c.args.callers c.args.limit c.args.group c.push.new.self c.new-groups.result c.new.result.items c.new-2.result.items c.new-3.result.items c.new-groups.ensures c.in_ok-push.ensures.ok c.new.ensures.items c.new-2.ensures.items c.new-3.ensures.items
