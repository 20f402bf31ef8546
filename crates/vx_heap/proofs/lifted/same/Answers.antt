use Rattle.vx_heap.proofs.Throughout.{throughout_one}
use Rattle.vx_heap.proofs.lifted.same.Goals as goal

pub returns : goal.returns
returns g c = throughout_one g.T.Ord.cmp _ c.args.scope c.args.value c.in_ok-cond.cond c.in_ok-cond.ensures.scope c.in_ok-cond.ensures.ok
