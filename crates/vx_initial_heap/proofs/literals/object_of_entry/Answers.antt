use Rattle.vx_initial_heap.proofs.RememberedLaws.{right_more}
use Rattle.vx_initial_heap.specs.Literals.{IsObject}
use Rattle.vx_initial_heap.proofs.literals.object_of_entry.Goals as goal

pub returns-clause-known : goal.returns-clause-known
returns-clause-known c = right_more (IsObject c.args.listed.now c.args.pool.now) c.args.known.now c.put.new.self c.args.entry.now c.in_ok-object.object c.put.ensures.texts c.put.ensures.classes c.requires c.in_ok-object.ensures
