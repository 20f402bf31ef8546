use Rattle.std.proofs.Common.{refl}
use Rattle.vx_group.proofs.SweepLaws.{AreMarkedSome-start, AreMarkedSome-step, StandIn-item}
use Rattle.vx_group.proofs.sweep.mark_all.Goals as goal

pub loop-group-init : goal.loop-group-init
loop-group-init g c = AreMarkedSome-start _ _ _ (λ x. rw c.new-marks.ensures.empty refl)

pub mark-requires-clause-nodes : goal.mark-requires-clause-nodes
mark-requires-clause-nodes g c = rw (c.caller.ensures, c.callers_count.ensures) (StandIn-item c.args.callers.now c.args.groups.now _ c.group-item.result c.requires c.loop-group-test.true c.group-item.is)

pub loop-group-preserved : goal.loop-group-preserved
loop-group-preserved g c = AreMarkedSome-step _ _ _ c.group-item.result _ _ c.loop-group.invariant c.loop-group-test.true c.group-item.is (rw c.caller.ensures at c.in_ok-mark.ensures.adds) c.in_ok-mark.ensures.closed (rw c.caller.ensures at c.in_ok-mark.ensures.marked)
