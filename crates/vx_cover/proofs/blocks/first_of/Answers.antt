use Rattle.std.proofs.Common.{sym, ◌∙◌}
use Rattle.vx_cover.proofs.Blocked.{first_here, first_later, first_none}
use Rattle.vx_cover.proofs.blocks.first_of.Goals as goal

pub returns-then-is_some : goal.returns-then-is_some
returns-then-is_some g c = first_here c.args.blocks.now c.loop-block.block-index c.block-item.result c.first_in-first.result c.loop-block-test.true c.block-item.is c.first_in-first.ensures (sym c.is_some.ensures ∙ c.if-is_some.true) c.loop-block.invariant

pub loop-block-preserved : goal.loop-block-preserved
loop-block-preserved g c = first_later c.args.blocks.now c.loop-block.block-index c.block-item.result c.first_in-first.result c.loop-block-test.true c.block-item.is c.first_in-first.ensures (sym c.is_some.ensures ∙ c.if-is_some.false) c.loop-block.invariant

pub returns : goal.returns
returns g c = first_none c.args.blocks.now c.loop-block.block-index c.loop-block-test.false c.loop-block.invariant
