use Rattle.vx_flow.proofs.ReadLaws.{AreRead}
use Rattle.vx_flow.proofs.reading.operands_of.Given as goal

abbrev pub invariant-loop-under : goal.invariant-loop-under
invariant-loop-under l = AreRead l.store l.operands l.types.items l.under

abbrev pub decreases-loop-under : goal.decreases-loop-under
decreases-loop-under l = l.under
