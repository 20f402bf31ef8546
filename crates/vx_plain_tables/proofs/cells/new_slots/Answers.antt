use Rattle.std.proofs.Common.{◌-◌, ◌∙◌, arith}
use Rattle.vx_plain_tables.proofs.CellLaws.{all_chained}
use Rattle.vx_plain_tables.proofs.cells.new_slots.Goals as goal

pub returns : goal.returns
returns c = c.loop-below.invariant ∙ all_chained c.args.program.now c.in_ok-chain.chain.items c.args.class.0 (c.len-count.result - c.loop-below.below) (omega (arith, c.loop-below-test.false)) c.in_ok-chain.ensures
