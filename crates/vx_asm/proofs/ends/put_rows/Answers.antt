use Rattle.vx_asm.proofs.Walks.{rows_go_on, rows_done}
use Rattle.vx_asm.proofs.ends.put_rows.Goals as goal
use Rattle.vx_code_parts.proofs.Loops.{none_left}

pub loop-row-preserved : goal.loop-row-preserved
loop-row-preserved c = rows_go_on _ _ _ _ _ _ c.loop-row-test.true c.row-item.is c.in_ok-put_caught.ensures c.loop-row.invariant

pub returns : goal.returns
returns c = rows_done _ _ _ (none_left _ _ c.loop-row-test.false) c.loop-row.invariant
