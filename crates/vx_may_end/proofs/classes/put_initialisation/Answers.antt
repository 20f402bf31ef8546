use Rattle.std.proofs.Common.{◌-◌}
use Rattle.vx_java.proofs.Walks.{chain_from, chain_row}
use Rattle.vx_may_end.proofs.Putting.{blocking_step}
use Rattle.vx_may_end.proofs.classes.put_initialisation.Goals as goal

pub loop-left-preserved : goal.loop-left-preserved
loop-left-preserved c =
    let p = c.args.program.now in
    rw (c.in_ok-put_blocking.ensures)
    (blocking_step p c.loop-left.out.items _ c.in-Some.class.0 (chain_from p c.loop-left.left c.loop-left.next) (chain_from p (c.loop-left.left - 1) c.superclass_of-next.result)
    (chain_row p c.loop-left.left c.loop-left.next c.in-Some.class c.superclass_of-next.result c.in-Some.is c.loop-left-test.true c.superclass_of-next.ensures)
    c.loop-left.invariant)
