use Rattle.vx_bdd.specs.Marks.{is_marked}
use Rattle.vx_bdd.proofs.MarkLaws.{IsMarkingSome}
use Rattle.vx_bdd.proofs.compaction.mark_all.Given as goal

abbrev pub invariant-loop-root : goal.invariant-loop-root
invariant-loop-root l = IsMarkingSome l.table.nodes.slots l.roots l.root-index (is_marked l.marks)
