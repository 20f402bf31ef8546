use Rattle.vx_verify.proofs.WordLaws.{IsCounting}
use Rattle.vx_verify.proofs.rows.words.Given as goal

abbrev pub invariant-loop-left : goal.invariant-loop-left
invariant-loop-left l = IsCounting l.store l.count l.operands l.tops.items l.under l.left

abbrev pub decreases-loop-left : goal.decreases-loop-left
decreases-loop-left l = l.left
