use Rattle.std.proofs.Common.{◌≡◌, drop}
use Rattle.vx_dimacs.specs.Dimacs.{with_marks}
use Rattle.vx_dimacs.specs.Draft.{drafted}
use Rattle.vx_dimacs.proofs.draft.Draft.add_marks.Given as goal

abbrev pub invariant-loop-mark : goal.invariant-loop-mark
invariant-loop-mark l = with_marks (drafted l.self) (drop l.mark-index l.marks) ≡ with_marks (drafted l.initial.self) l.marks
