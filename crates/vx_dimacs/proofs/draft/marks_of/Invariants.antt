use Rattle.std.proofs.Common.{◌≡◌, length}
use Rattle.vx_words.specs.Lines.{words}
use Rattle.vx_dimacs.specs.Dimacs.{marks_of}
use Rattle.vx_dimacs.proofs.Marks.{behind_marks}
use Rattle.vx_dimacs.proofs.draft.marks_of.Given as goal

abbrev pub invariant-loop-word : goal.invariant-loop-word
invariant-loop-word l = behind_marks l.marks.items (marks_of l.variables (words l.rest)) ≡ marks_of l.variables (words l.text)

abbrev pub decreases-loop-word : goal.decreases-loop-word
decreases-loop-word l = length l.rest
