use Rattle.std.proofs.Common.{get_or, refl, ◌∙◌}
use Rattle.vx_verify.proofs.Reached.{no_row}
use Rattle.vx_verify.proofs.SpanLaws.{around_all, around_more, around_none}
use Rattle.vx_verify.proofs.quiet.around.Goals as goal

pub loop-row-init : goal.loop-row-init
loop-row-init c = record { rows = around_none c.args.at _; locals = refl }

pub returns-clause-rows : goal.returns-clause-rows
returns-clause-rows c = around_all c.args.rows.now c.loop-row.row-index c.args.at c.loop-row.quiet c.loop-row-test.false c.loop-row.invariant.rows

pub loop-row-preserved : goal.loop-row-preserved
loop-row-preserved c = record {
  rows = around_more c.args.rows.now c.loop-row.row-index c.args.at (get_or c.args.rows.now c.loop-row.row-index no_row) no_row c.loop-row.quiet c.narrowed-quiet.result c.loop-row-test.true refl
      c.loop-row.invariant.rows c.narrowed-quiet.ensures;
  locals = c.narrowed-quiet.ensures.locals ∙ c.loop-row.invariant.locals;
}
