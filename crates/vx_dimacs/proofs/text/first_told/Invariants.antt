use Rattle.std.proofs.Common.{◌≡◌, length}
use Rattle.vx_words.specs.Lines.{lines}
use Rattle.vx_dimacs.specs.Dimacs.{first_told}
use Rattle.vx_dimacs.proofs.text.first_told.Given as goal

abbrev pub invariant-loop-text : goal.invariant-loop-text
invariant-loop-text l = first_told (lines l.rest) ≡ first_told (lines l.bytes)

abbrev pub decreases-loop-text : goal.decreases-loop-text
decreases-loop-text l = length l.rest
