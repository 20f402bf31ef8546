use Rattle.vx_bdd.proofs.SpaceLaws.{IsWalking-end, IsWalking-step}
use Rattle.vx_bdd.proofs.table.Table.holds.Goals as goal

pub loop-at-preserved : goal.loop-at-preserved
loop-at-preserved c = IsWalking-step c.loop-at.invariant c.next-at.ensures

pub returns : goal.returns
returns c = IsWalking-end c.loop-at.at c.args.c.now c.loop-at.invariant c.loop-at-test.false
