use Rattle.std.proofs.Common.{length}
use Rattle.vx_verify.proofs.JoinLaws.{AreJoining}
use Rattle.vx_verify.proofs.store.Store.joined.Given as goal

abbrev pub invariant-loop-both : goal.invariant-loop-both
invariant-loop-both l = AreJoining l.program l.fn.self l.self l.fn.apart.items l.apart.items l.shared l.merged

abbrev pub decreases-loop-both : goal.decreases-loop-both
decreases-loop-both l = length l.apart.items
