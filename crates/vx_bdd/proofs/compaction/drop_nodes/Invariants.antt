use Rattle.vx_bdd.specs.Table.{IsIndex}
use Rattle.vx_bdd.proofs.MarkLaws.{IsDropping}
use Rattle.vx_bdd.proofs.compaction.drop_nodes.Given as goal

abbrev pub invariant-loop-id : goal.invariant-loop-id
invariant-loop-id l = record {
  index : IsIndex l.nodes.slots l.ids;
  dropping : IsDropping l.dropped l.id-index l.fn.nodes.slots l.nodes.slots;
}
