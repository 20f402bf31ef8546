use Rattle.vx_verify.specs.Joining.{AreParted}
use Rattle.vx_verify.proofs.store.Store.parted.Given as goal

abbrev pub invariant-loop-left : goal.invariant-loop-left
invariant-loop-left l = AreParted l.self l.one l.other l.apart.items l.left l.right

abbrev pub decreases-loop-left : goal.decreases-loop-left
decreases-loop-left l = l.left
