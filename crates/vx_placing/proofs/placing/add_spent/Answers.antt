use Rattle.std.specs.Ordering.{nat_cmp}
use Rattle.vx_cond.proofs.LeafLoops.{next_known}
use Rattle.vx_placing.proofs.AddingAll.{IsAddingAll-apart, IsAddingAll-end, IsAddingAll-start, IsAddingAll-step}
use Rattle.vx_findings.specs.Shared.{leaves_of}
use Rattle.vx_placing.proofs.placing.add_spent.Goals as goal

pub loop-leaf-init : goal.loop-leaf-init
loop-leaf-init g c = IsAddingAll-start nat_cmp _ (leaves_of c.args.spent.now.items) c.args.leaves.now c.requires.spent

pub add-requires-clause-leaves : goal.add-requires-clause-leaves
add-requires-clause-leaves g c = c.loop-leaf.invariant.leaves.are_leaves

pub add-requires-clause-known : goal.add-requires-clause-known
add-requires-clause-known g c = next_known nat_cmp c.args.leaves.now _ c.leaf-item.result c.requires.leaves c.loop-leaf-test.true c.leaf-item.is c.loop-leaf.invariant.extends

pub add-requires-clause-apart : goal.add-requires-clause-apart
add-requires-clause-apart g c = IsAddingAll-apart nat_cmp (leaves_of c.args.spent.now.items) c.args.leaves.now _ c.leaf-item.result _ c.requires.leaves c.requires.apart c.loop-leaf-test.true c.leaf-item.is c.loop-leaf.invariant

pub loop-leaf-preserved : goal.loop-leaf-preserved
loop-leaf-preserved g c = IsAddingAll-step nat_cmp (leaves_of c.args.spent.now.items) c.args.leaves.now _ c.leaf-item.result _ _ c.requires.leaves c.requires.apart c.loop-leaf-test.true c.leaf-item.is c.loop-leaf.invariant c.in_ok-add.ensures.extends c.in_ok-add.ensures.added

pub returns-clause-extends : goal.returns-clause-extends
returns-clause-extends g c = c.loop-leaf.invariant.extends

pub returns-clause-added : goal.returns-clause-added
returns-clause-added g c = IsAddingAll-end nat_cmp (leaves_of c.args.spent.now.items) c.args.leaves.now _ (leaves_of c.loop-leaf.spent.items) c.loop-leaf.invariant c.loop-leaf-test.false
