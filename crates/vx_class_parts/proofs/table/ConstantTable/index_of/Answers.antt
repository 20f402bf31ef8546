use Rattle.vx_class_parts.proofs.Indices.{index_behind, index_there}
use Rattle.vx_class_parts.proofs.table.ConstantTable.index_of.Goals as goal

pub returns-in-Some : goal.returns-in-Some
returns-in-Some c = rw (← c.self.view_is) (index_there c.args.constant.now c.self.inside.indices.entries c.self.inside.places c.in-Some.index.now c.self.invariant c.in-Some.ensures.value)

pub returns-in-None : goal.returns-in-None
returns-in-None c = rw (← c.self.view_is) (index_behind c.args.constant.now c.self.inside.indices.entries c.self.inside.places c.self.invariant c.in-None.ensures.value)
