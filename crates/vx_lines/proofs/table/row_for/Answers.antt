use Rattle.std.proofs.Common.{◌<◌, length, arith}
use Rattle.vx_lines.proofs.Latest.{next_row, no_more}
use Rattle.vx_lines.proofs.table.row_for.Goals as goal

pub loop-row-preserved : goal.loop-row-preserved
loop-row-preserved c =
    let lt : c.loop-row.row-index < length c.args.rows.now = omega arith in
    next_row _ _ _ _ _ _ _ _ lt c.reaching-next.ensures c.later-found.ensures c.loop-row.invariant

pub returns : goal.returns
returns c = no_more _ _ _ _ _ c.loop-row-test.false c.loop-row.invariant
