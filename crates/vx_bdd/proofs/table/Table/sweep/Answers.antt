use Rattle.vx_bdd.proofs.MarkLaws.{AreNodes-unmarked, KeepsMarked-dropped, Grows-dropped}
use Rattle.vx_bdd.proofs.CompactLaws.{IsReduced-swept}
use Rattle.vx_bdd.proofs.SweptLaws.{IsSwept-kept}
use Rattle.vx_bdd.proofs.table.Table.sweep.Goals as goal

pub drop_nodes-requires-clause-inner : goal.drop_nodes-requires-clause-inner
drop_nodes-requires-clause-inner c = rw c.as_slice.ensures.value (AreNodes-unmarked _ _ _ c.requires.never c.requires.always c.in_ok-unmarked.ensures)

pub returns-clause-kept : goal.returns-clause-kept
returns-clause-kept c = KeepsMarked-dropped _ _ _ c.args.self.now.ids _ c.args.self.now.index c.requires.never c.requires.always c.in_ok-unmarked.ensures (rw c.as_slice.ensures.value at c.drop_nodes.ensures.dropped)

pub invariant_of-self : goal.invariant_of-self
invariant_of-self c =
    let kept = KeepsMarked-dropped _ _ _ c.args.self.now.ids _ c.args.self.now.index c.requires.never c.requires.always c.in_ok-unmarked.ensures (rw c.as_slice.ensures.value at c.drop_nodes.ensures.dropped) in
    record {
      few = c.args.self.now.few;
      reduced = IsReduced-swept c.args.self.now.options _ _ _ c.args.self.now.reduced c.requires.closed c.requires.never c.requires.always kept;
      index = c.drop_nodes.ensures.index;
      swept = λ _. rw c.in_ok-swept.ensures.items (IsSwept-kept c.args.self.now.options _ _ _ c.args.roots.now c.args.self.now.reduced c.requires kept);
    }
