use Rattle.vx_bdd.proofs.MarkLaws.{IsDropping-start, IsDropping-step, IsDropping-end, IsIndex-without}
use Rattle.std.proofs.lemmas.List.Elements.{Contains-get_or}
use Rattle.vx_bdd.proofs.compaction.drop_nodes.Goals as goal

pub loop-id-init : goal.loop-id-init
loop-id-init c = record { index = c.requires.index; dropping = IsDropping-start c.args.dropped.now c.args.nodes.now.slots }

pub loop-id-preserved : goal.loop-id-preserved
loop-id-preserved c = record {
  index = IsIndex-without _ _ _ _ _ c.loop-id.invariant.index (c.requires.inner.inner _ (Contains-get_or c.args.dropped.now c.loop-id.id-index 0 c.loop-id-test.true)) c.drop_node.ensures.nodes c.drop_node.ensures.ids;
  dropping = IsDropping-step _ _ _ _ _ c.loop-id.invariant.dropping c.loop-id-test.true c.drop_node.ensures.nodes;
}

pub returns-clause-dropped : goal.returns-clause-dropped
returns-clause-dropped c = IsDropping-end _ _ _ _ c.loop-id.invariant.dropping c.loop-id-test.false
