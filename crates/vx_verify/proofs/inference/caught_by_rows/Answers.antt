use Rattle.std.proofs.Common.{arith, get_or, refl}
use Rattle.vx_verify.proofs.Reached.{no_row}
use Rattle.vx_verify.proofs.Sweeps.{catching_end, catching_start, catching_step}
use Rattle.vx_verify.proofs.inference.caught_by_rows.Goals as goal

pub loop-row-init : goal.loop-row-init
loop-row-init c = rw c.new-caught.ensures.items (catching_start c.args.program.now c.args.method.0 c.args.store.now c.args.rows.now c.requires.store)

pub caught_by-requires-clause-store : goal.caught_by-requires-clause-store
caught_by-requires-clause-store c = c.loop-row.invariant.later.store

pub returns : goal.returns
returns c =
    catching_end c.args.program.now c.args.method.0 c.args.store.now c.loop-row.store c.args.rows.now c.loop-row.row-index c.loop-row.caught.items c.loop-row.invariant (omega arith)

pub loop-row-preserved : goal.loop-row-preserved
loop-row-preserved c =
    rw c.in_ok-push.ensures.items
    (catching_step c.args.program.now c.args.method.0 c.args.store.now c.loop-row.store c.caught_by.new.store c.args.rows.now c.loop-row.row-index c.in_ok-operands.operands
    (get_or c.args.rows.now c.loop-row.row-index no_row) no_row c.loop-row.caught.items c.loop-row-test.true refl c.loop-row.invariant c.in_ok-operands.ensures)
