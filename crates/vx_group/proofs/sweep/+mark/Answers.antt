use Rattle.std.proofs.Common.{sym}
use Rattle.vx_group.proofs.SweepLaws.{AddsReached-insert}
use Rattle.vx_group.proofs.sweep.+mark.Goals as goal

pub returns-clause-adds : goal.returns-clause-adds
returns-clause-adds g t c = rw c.in-Some.is (AddsReached-insert _ c.in-Some.number c.in-Some-get.node.now _ _ _ (sym c.in-Some-get.ensures) c.in_ok-mark.ensures.adds c.in_ok-insert.ensures.updates.0)
