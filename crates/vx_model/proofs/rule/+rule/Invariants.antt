use Rattle.std.proofs.Common.{◌+◌, ◌*◌, length}
use Rattle.vx_model.specs.Parser.{part_at}
use Rattle.vx_model.proofs.Rules.{rank, JoinsOn}
use Rattle.vx_model.proofs.rule.+rule.Given as goal

abbrev pub decreases-implication : goal.decreases-implication
decreases-implication l = 6 * l.depth + 5

abbrev pub decreases-joined : goal.decreases-joined
decreases-joined l = 6 * l.depth + rank l.operator + 2

abbrev pub decreases-operand : goal.decreases-operand
decreases-operand l = 6 * l.depth

abbrev pub decreases-part : goal.decreases-part
decreases-part l = 6 * l.depth + rank l.operator + 1

abbrev pub invariant-joined-loop-after : goal.invariant-joined-loop-after
invariant-joined-loop-after l = JoinsOn l.operator (part_at l.operator l.depth) l.tokens l.parts.items l.rest

abbrev pub decreases-joined-loop-after : goal.decreases-joined-loop-after
decreases-joined-loop-after l = length l.rest
