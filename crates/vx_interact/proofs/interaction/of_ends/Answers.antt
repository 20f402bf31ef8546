use Rattle.std.specs.Prelude.{false}
use Rattle.vx_interact.proofs.Entries.{AreEntries-step, AreEntries-all}
use Rattle.vx_interact.proofs.interaction.of_ends.Goals as goal

pub loop-line-preserved : goal.loop-line-preserved
loop-line-preserved c = AreEntries-step c.args.report.now.nodes false (λ line. line.node) _ c.args.report.now.ends c.loop-line.line-index c.line-item.result _ _ c.as_slice-line-items.ensures c.loop-line-test.true c.line-item.is c.loop-line.invariant c.in_ok-push_entry.ensures

pub returns : goal.returns
returns c = AreEntries-all c.args.report.now.nodes false (λ line. line.node) _ c.args.report.now.ends c.loop-line.line-index _ c.as_slice-line-items.ensures c.loop-line-test.false c.loop-line.invariant
