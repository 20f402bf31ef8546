use Rattle.vx_verify.proofs.StartLaws.{AreFilled}
use Rattle.vx_verify.proofs.start.filled.Given as goal

abbrev pub invariant-loop-number : goal.invariant-loop-number
invariant-loop-number l = AreFilled l.fn.store l.store l.frame l.numbers l.number-index l.place l.tree
