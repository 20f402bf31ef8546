use Rattle.vx_class_parts.proofs.Indices.{few_places}
use Rattle.vx_class_parts.proofs.table.ConstantTable.places.Goals as goal

pub prove-unreachable-requires : goal.prove-unreachable-requires
prove-unreachable-requires c = few_places c.self.inside.indices.entries c.self.inside.places c.len-count.result c.self.invariant c.len-count.ensures.len c.if-prove.true
