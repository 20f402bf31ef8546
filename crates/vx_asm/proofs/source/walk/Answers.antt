use Rattle.std.proofs.Common.{◌+◌}
use Rattle.std.proofs.lemmas.Result.{err_from_is_err_and}
use Rattle.vx_asm.proofs.Short.{items_behind}
use Rattle.vx_asm.proofs.Walks.{walk_goes_on, walk_ends, walk_done}
use Rattle.vx_asm.proofs.source.walk.Goals as goal
use Rattle.vx_code_parts.proofs.Loops.{none_left}

pub returns-in_err-at_line : goal.returns-in_err-at_line
returns-in_err-at_line c =
    let p = err_from_is_err_and c.from_residual.result c.from_residual.ensures.1 in
    let line = rw (items_behind c.args.lines.now (c.loop-at.at + 1)) at c.in_err-at_line.ensures.refused in
    rw (p.1, p.2) (walk_ends _ c.args.count _ _ _ _ _ c.loop-at-test.true c.index-lines-at.is line c.loop-at.invariant)

pub loop-at-preserved : goal.loop-at-preserved
loop-at-preserved c =
    let line = rw (items_behind c.args.lines.now (c.loop-at.at + 1)) at c.in_ok-at_line.ensures.given in
    walk_goes_on c.args.count _ _ _ _ _ _ c.loop-at-test.true c.index-lines-at.is line c.loop-at.invariant

pub returns : goal.returns
returns c = walk_done _ _ _ _ (none_left _ _ c.loop-at-test.false) c.loop-at.invariant
