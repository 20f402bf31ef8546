use Rattle.std.proofs.Common.{◌∷◌, ◌≡◌}
use Rattle.vx_words.specs.Lines.{lines}
use Rattle.vx_refusals.specs.Refusals.{line_at}
use Rattle.vx_list.specs.Places.{item_or}
use Rattle.std.specs.Prelude.{[]}
use Rattle.vx_refusals.proofs.model.line_at.Given as goal

-- the line that is sought, among the last one and those that are left
abbrev pub invariant-loop-left : goal.invariant-loop-left
invariant-loop-left l = line_at (lines l.text) l.number ≡ item_or (l.line ∷ lines l.rest) l.left []

abbrev pub decreases-loop-left : goal.decreases-loop-left
decreases-loop-left l = l.left
