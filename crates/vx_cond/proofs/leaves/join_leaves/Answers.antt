use Rattle.vx_cond.proofs.LeafLoops.{IsMerging-start, IsMerging-there_first, IsMerging-there_second, IsMerging-took_first, IsMerging-took_second}
use Rattle.vx_cond.proofs.leaves.join_leaves.Goals as goal

pub merging-init : goal.merging-init
merging-init g c = rw c.new-made.ensures.items (IsMerging-start g.T.Ord.cmp (g.S.Space.sets c.args.space.now) c.args.leaves.now c.args.others.now)

pub add-requires-clause-apart : goal.add-requires-clause-apart
add-requires-clause-apart g c = IsMerging-there_first g.T.Ord.cmp c.args.leaves.now c.args.others.now c.merging.i c.merging.j c.index-leaves-i-in-First.result c.merging.made.items c.requires.leaves c.requires.apart c.in-First.ensures c.index-leaves-i-in-First.is c.merging.invariant

pub merging-preserved-in-First : goal.merging-preserved-in-First
merging-preserved-in-First g c = IsMerging-took_first g.T.Ord.cmp c.args.leaves.now c.args.others.now c.merging.i c.merging.j c.index-leaves-i.result c.index-leaves-i-in-First.result c.merging.made.items c.add.new.leaves.items c.requires.leaves c.in-First.ensures c.index-leaves-i.is c.index-leaves-i-in-First.is c.merging.invariant c.in_ok-add-in-First.ensures.extends c.in_ok-add-in-First.ensures.added

pub add-requires-in-Second-clause-apart : goal.add-requires-in-Second-clause-apart
add-requires-in-Second-clause-apart g c = IsMerging-there_second g.T.Ord.cmp c.args.leaves.now c.args.others.now c.merging.i c.merging.j c.index-others-j-in-Second.result c.merging.made.items c.requires.others c.requires.apart c.in-Second.ensures c.index-others-j-in-Second.is c.merging.invariant

pub merging-preserved : goal.merging-preserved
merging-preserved g c = IsMerging-took_second g.T.Ord.cmp c.args.leaves.now c.args.others.now c.merging.i c.merging.j c.index-others-j.result c.index-others-j-in-Second.result c.merging.made.items c.add-in-Second.new.leaves.items c.requires.others c.requires.apart c.in-Second.ensures c.index-others-j.is c.index-others-j-in-Second.is c.merging.invariant c.in_ok-add-in-Second.ensures.extends c.in_ok-add-in-Second.ensures.added
