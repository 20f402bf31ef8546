use Rattle.std.proofs.lemmas.Int.{to_z-of_z}
use Rattle.std.specs.Int.{w32}
use Rattle.vx_effects.proofs.Carried.{integer_made-done}
use Rattle.vx_effects.proofs.giving.give_integer.Goals as goal

pub returns : goal.returns
returns g c = λ sets v known held. integer_made-done c.args.program.now sets c.args.heap.now c.alloc_cells.new.self c.args.condition c.args.n c.core_class-class.result c.in_ok-reference.reference v c.core_class-class.ensures known (rw (to_z-of_z w32 c.args.n c.ranges.n) at (c.in_ok-reference.ensures.ok sets))
