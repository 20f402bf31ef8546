use Rattle.std.proofs.Common.{length, refl}
use Rattle.std.proofs.lemmas.Bool.{lt-ltb}
use Rattle.vx_effects.proofs.Carried.{text_made-done}
use Rattle.vx_effects.proofs.giving.give_text.Goals as goal

pub alloc_cells-requires-clause-slots : goal.alloc_cells-requires-clause-slots
alloc_cells-requires-clause-slots g c = rw (lt-ltb c.in_ok-number.number (length c.text_number.new.heap.texts) c.in_ok-number.ensures.text.known) refl

pub returns : goal.returns
returns g c = λ sets v known held. text_made-done c.args.program.now sets c.args.heap.now c.text_number.new.heap c.alloc_cells.new.self c.args.condition c.args.start c.args.units.items c.in_ok-number.number c.core_class-class.result c.in_ok-reference.reference v (rw c.deref.ensures.value at c.in_ok-number.ensures) c.core_class-class.ensures known (c.in_ok-reference.ensures.ok sets)
