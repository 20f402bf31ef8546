use Rattle.std.proofs.Common.{◌∙◌}
use Rattle.vx_report.proofs.Walks.{walk_more, walked, walked_all}
use Rattle.vx_report.proofs.meaning.holds_in.Goals as goal

pub loop-preserved : goal.loop-preserved
loop-preserved c = rw c.step-at.ensures (walk_more c.args.nodes.now c.args.node c.loop.counter c.loop.at c.args.c.now c.loop-test.true ∙ c.loop.invariant)

pub returns-then-at-lt2 : goal.returns-then-at-lt2
returns-then-at-lt2 c = walked c.args.nodes.now c.args.node c.loop.counter c.loop.at c.args.c.now c.if-at-lt2.true c.loop.invariant

pub returns : goal.returns
returns c = walked_all c.args.nodes.now c.args.node c.loop.counter c.loop.at c.args.c.now c.loop-test.false c.loop.invariant
