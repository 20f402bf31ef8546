use Rattle.vx_verify.proofs.WordLaws.{ArePushed}
use Rattle.vx_verify.proofs.rows.on_top.Given as goal

abbrev pub invariant-loop-left : goal.invariant-loop-left
invariant-loop-left l = ArePushed l.fn.store l.store l.tops l.under l.left l.operands

abbrev pub decreases-loop-left : goal.decreases-loop-left
decreases-loop-left l = l.left
