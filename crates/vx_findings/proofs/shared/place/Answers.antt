use Rattle.std.proofs.Common.{true, false, sym}
use Rattle.vx_findings.proofs.Listed.{stands_here, stands_later, stands_last}
use Rattle.vx_findings.proofs.shared.place.Goals as goal

pub returns-in-Equal-clause-place : goal.returns-in-Equal-clause-place
returns-in-Equal-clause-place g c = stands_here g.V.Ranked.order c.args.value.now c.args.list.now c.loop-i.i c.index-list-i.result true c.loop-i.invariant c.loop-i-test.true c.index-list-i.is (sym c.in-Equal.ensures)

pub returns-in-Greater-clause-place : goal.returns-in-Greater-clause-place
returns-in-Greater-clause-place g c = stands_here g.V.Ranked.order c.args.value.now c.args.list.now c.loop-i.i c.index-list-i.result false c.loop-i.invariant c.loop-i-test.true c.index-list-i.is (sym c.in-Greater.ensures)

pub loop-i-preserved : goal.loop-i-preserved
loop-i-preserved g c = stands_later g.V.Ranked.order c.args.value.now c.args.list.now c.loop-i.i c.index-list-i.result c.loop-i.invariant c.loop-i-test.true c.index-list-i.is (sym c.in-Less.ensures)

pub returns-clause-place : goal.returns-clause-place
returns-clause-place g c = stands_last g.V.Ranked.order c.args.value.now c.args.list.now c.loop-i.i c.loop-i.invariant c.loop-i.auto.i-end c.loop-i-test.false
