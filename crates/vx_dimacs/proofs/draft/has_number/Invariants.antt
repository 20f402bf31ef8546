use Rattle.std.proofs.Common.{◌≡◌, length}
use Rattle.std.specs.List.{list_any}
use Rattle.vx_words.specs.Lines.{words}
use Rattle.vx_dimacs.specs.Dimacs.{is_number}
use Rattle.vx_dimacs.proofs.draft.has_number.Given as goal

abbrev pub invariant-loop-word : goal.invariant-loop-word
invariant-loop-word l = list_any is_number (words l.rest) ≡ list_any is_number (words l.text)

abbrev pub decreases-loop-word : goal.decreases-loop-word
decreases-loop-word l = length l.rest
