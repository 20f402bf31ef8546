use Rattle.std.proofs.Common.{subst, sym}
use Rattle.vx_space.specs.Under.{IsNumberUnder}
use Rattle.vx_space.proofs.Counts.{IsNumberUnder-count}
use Rattle.vx_bdd.specs.declared.node.Op.TheVariants.{And, Minus, Or}
use Rattle.vx_bdd.specs.Lawful.{lawful_sets}
use Rattle.vx_bdd.proofs.CompactLaws.{IsCompacted-swept, IsJustUnder-swept, AreRight-forgotten}
use Rattle.vx_bdd.proofs.SweptLaws.{IsMarking-swept, KeepsMarked-stored, AreStored-known}
use Rattle.vx_bdd.proofs.space.BddSpaceSpace.compact.Goals as goal

pub returns-then-is_swept-clause-ok : goal.returns-then-is_swept-clause-ok
returns-then-is_swept-clause-ok c =
    let old = c.args.self.now in
    let marking = IsMarking-swept c.args.roots.now old.table.reduced (AreStored-known old.table.options old.base old.table.nodes.slots c.args.roots.now c.requires) (c.is_swept.ensures c.if-is_swept.true) in
    IsCompacted-swept old.table.options old.base c.count-self.result c.args.roots.now _ _ _ marking (KeepsMarked-stored old.table.nodes.slots) c.count-self.ensures

pub returns-then-is_swept-clause-counted : goal.returns-then-is_swept-clause-counted
returns-then-is_swept-clause-counted c = λ _.
    let old = c.args.self.now in
    let marking = IsMarking-swept c.args.roots.now old.table.reduced (AreStored-known old.table.options old.base old.table.nodes.slots c.args.roots.now c.requires) (c.is_swept.ensures c.if-is_swept.true) in
    IsJustUnder-swept old.table.options c.count-self.result _ _ _ c.args.roots.now old.table.few old.table.reduced marking (KeepsMarked-stored old.table.nodes.slots)

pub returns-then-is_swept-clause-based : goal.returns-then-is_swept-clause-based
returns-then-is_swept-clause-based c = λ e.
    let old = c.args.self.now in
    subst (IsNumberUnder _) (sym c.count-self.ensures) (IsNumberUnder-count (lawful_sets old.table.options old.table.nodes.slots c.count-self.result old.table.few old.table.reduced) _ e (returns-then-is_swept-clause-counted c e))

pub returns-clause-ok : goal.returns-clause-ok
returns-clause-ok c =
    let old = c.args.self.now in
    rw c.sweep.ensures.options (IsCompacted-swept old.table.options old.base c.count-self-2.result c.args.roots.now _ _ _ c.in_ok-mark_all.ensures c.in_ok-all_kept.ensures.kept c.count-self-2.ensures)

pub returns-clause-counted : goal.returns-clause-counted
returns-clause-counted c = λ _.
    let old = c.args.self.now in
    rw c.sweep.ensures.options (IsJustUnder-swept old.table.options c.count-self-2.result _ _ _ c.args.roots.now old.table.few old.table.reduced c.in_ok-mark_all.ensures c.in_ok-all_kept.ensures.kept)

pub returns-clause-based : goal.returns-clause-based
returns-clause-based c = λ e. subst (IsNumberUnder _) (sym c.count-self-2.ensures) (IsNumberUnder-count (lawful_sets c.sweep.new.self.options c.sweep.new.self.nodes.slots c.count-self-2.result c.sweep.new.self.few c.sweep.new.self.reduced) _ e (returns-clause-counted c e))

pub invariant_of-self-2 : goal.invariant_of-self-2
invariant_of-self-2 c = record {
  ands_right = rw c.sweep.ensures.options (AreRight-forgotten And c.in_ok-all_kept.all_kept c.args.self.now.table.reduced c.in_ok-all_kept.ensures.all _ _ c.forget.ensures.forgets c.forget.ensures.keeps c.args.self.now.ands_right);
  ors_right = rw c.sweep.ensures.options (AreRight-forgotten Or c.in_ok-all_kept.all_kept c.args.self.now.table.reduced c.in_ok-all_kept.ensures.all _ _ c.forget-2.ensures.forgets c.forget-2.ensures.keeps c.args.self.now.ors_right);
  minuses_right = rw c.sweep.ensures.options (AreRight-forgotten Minus c.in_ok-all_kept.all_kept c.args.self.now.table.reduced c.in_ok-all_kept.ensures.all _ _ c.forget-3.ensures.forgets c.forget-3.ensures.keeps c.args.self.now.minuses_right);
}
