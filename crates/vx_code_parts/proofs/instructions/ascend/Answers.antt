use Rattle.vx_code_parts.proofs.Loops.{ascend_goes_on, ascend_ends, ascend_done, none_left}
use Rattle.vx_code_parts.proofs.instructions.ascend.Goals as goal

pub returns-then-not-above : goal.returns-then-not-above
returns-then-not-above c = ascend_ends _ _ _ _ _ _ c.loop-case-test.true c.case-item.is c.is_above-above.ensures c.if-not-above.true c.loop-case.invariant

pub loop-case-preserved : goal.loop-case-preserved
loop-case-preserved c = ascend_goes_on _ _ _ _ _ _ c.loop-case-test.true c.case-item.is c.is_above-above.ensures c.if-not-above.false c.loop-case.invariant

pub returns : goal.returns
returns c = ascend_done _ _ _ (none_left _ _ c.loop-case-test.false) c.loop-case.invariant
