use Rattle.vx_bdd.proofs.MarkLaws.{IsPicking-step}
use Rattle.vx_bdd.proofs.compaction.unmarked_ids.Goals as goal

pub loop-id-preserved : goal.loop-id-preserved
loop-id-preserved c = IsPicking-step _ _ c.loop-id.id-iterator c.next.new.self _ _ c.in-Some.id.now c.loop-id.invariant c.in-Some.ensures.steps c.in_ok-pick.ensures
