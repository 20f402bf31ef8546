use Rattle.std.proofs.Common.{take, map}
use Rattle.std.specs.Prelude.{true}
use Rattle.vx_interact.specs.Interactions.{AreEntries}
use Rattle.vx_interact.proofs.interaction.of_pieces.Given as goal

abbrev pub invariant-loop-line : goal.invariant-loop-line
invariant-loop-line l = AreEntries l.report.nodes true 1 (map (λ line. line.node) (take l.line-index l.report.pieces)) l.entries.items
