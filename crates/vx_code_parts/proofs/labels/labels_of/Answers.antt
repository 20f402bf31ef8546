use Rattle.vx_code_parts.proofs.Loops.{labels_go_on, labels_end, labels_done, none_left}
use Rattle.std.proofs.Common.{arith}
use Rattle.vx_code_parts.proofs.labels.labels_of.Goals as goal

pub returns-then-ends : goal.returns-then-ends
returns-then-ends c = labels_end _ _ _ _ _ c.loop-line-test.true c.line-item.is c.if-ends.true c.loop-line.invariant.same

pub loop-line-preserved : goal.loop-line-preserved
loop-line-preserved c = record {
  few = omega (arith, c.in_ok-next.ensures.few, c.loop-line.invariant.few);
  same = labels_go_on _ _ _ _ _ _ c.loop-line-test.true c.line-item.is c.if-ends.false c.in_ok-next.ensures.value c.loop-line.invariant.same;
}

pub returns : goal.returns
returns c = labels_done _ _ _ (none_left _ _ c.loop-line-test.false) c.loop-line.invariant.same
