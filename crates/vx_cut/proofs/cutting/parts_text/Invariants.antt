use Rattle.vx_cut.proofs.Putting.{IsPutting}
use Rattle.vx_cut.proofs.cutting.parts_text.Given as goal

abbrev pub invariant-loop-i : goal.invariant-loop-i
invariant-loop-i l = IsPutting l.dimacs l.text l.model l.terms l.i l.out.items
