use Rattle.std.proofs.Common.{take, map}
use Rattle.std.specs.Prelude.{false}
use Rattle.vx_interact.specs.Interactions.{AreEntries}
use Rattle.vx_interact.proofs.interaction.of_ends.Given as goal

abbrev pub invariant-loop-line : goal.invariant-loop-line
invariant-loop-line l = AreEntries l.report.nodes false 1 (map (λ line. line.node) (take l.line-index l.report.ends)) l.entries.items
