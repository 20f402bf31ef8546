use Rattle.std.proofs.Common.{refl}
use Rattle.vx_bdd.proofs.MarkLaws.{IsMarkingSome-start, IsMarkingSome-step, IsMarkingSome-end, stored_at}
use Rattle.vx_bdd.proofs.compaction.mark_all.Goals as goal

pub loop-root-init : goal.loop-root-init
loop-root-init c = IsMarkingSome-start _ _ _ _ _ c.begin.ensures c.in_ok-mark.ensures.adds c.in_ok-mark-2.ensures.adds c.in_ok-mark-2.ensures.closed c.in_ok-mark.ensures.marked c.in_ok-mark-2.ensures.marked

pub mark_root-requires-clause-stored : goal.mark_root-requires-clause-stored
mark_root-requires-clause-stored c = stored_at c.args.table.now.nodes.slots c.args.roots.now c.loop-root.root-index c.requires c.loop-root-test.true

pub loop-root-preserved : goal.loop-root-preserved
loop-root-preserved c = IsMarkingSome-step _ _ _ _ _ _ c.loop-root.invariant c.loop-root-test.true refl c.in_ok-mark_root.ensures.adds c.in_ok-mark_root.ensures.closed c.in_ok-mark_root.ensures.marked

pub returns : goal.returns
returns c = IsMarkingSome-end _ _ _ _ c.loop-root.invariant c.loop-root-test.false

pub mark_root-requires-clause-never : goal.mark_root-requires-clause-never
mark_root-requires-clause-never c = c.loop-root.invariant.never

pub mark_root-requires-clause-always : goal.mark_root-requires-clause-always
mark_root-requires-clause-always c = c.loop-root.invariant.always
