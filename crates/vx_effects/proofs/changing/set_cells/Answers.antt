use Rattle.vx_cells.proofs.Somewhere.{somewhere_later}
use Rattle.vx_space.proofs.Spaces.{Extends-trans}
use Rattle.vx_effects.proofs.Carried.{cells-done, first_of_cells, object_of_cells, object_still, second_still}
use Rattle.vx_effects.proofs.changing.set_cells.Goals as goal

pub write_inside-requires-clause-object : goal.write_inside-requires-clause-object
write_inside-requires-clause-object g c = object_of_cells _ c.args.heap.now c.args.condition c.args.object c.args.first c.args.second c.requires.held

pub write_inside-requires-clause-held : goal.write_inside-requires-clause-held
write_inside-requires-clause-held g c = first_of_cells _ c.args.heap.now c.args.condition c.args.object c.args.first c.args.second c.requires.held

pub write_inside-requires-2-clause-heap : goal.write_inside-requires-2-clause-heap
write_inside-requires-2-clause-heap g c = c.in_ok-write_inside.ensures.ok.is_heap

pub write_inside-requires-2-clause-known : goal.write_inside-requires-2-clause-known
write_inside-requires-2-clause-known g c = c.in_ok-write_inside.ensures.extends.known c.args.condition c.requires.known

pub write_inside-requires-2-clause-somewhere : goal.write_inside-requires-2-clause-somewhere
write_inside-requires-2-clause-somewhere g c = somewhere_later c.in_ok-write_inside.ensures.extends c.args.condition c.requires.known c.requires.somewhere

pub write_inside-requires-2-clause-object : goal.write_inside-requires-2-clause-object
write_inside-requires-2-clause-object g c = object_still c.in_ok-write_inside.ensures.extends c.args.heap.now c.write_inside.new.heap c.args.condition c.args.object c.args.first c.args.second c.requires.heap c.requires.known c.requires.held c.in_ok-write_inside.ensures.ok

pub write_inside-requires-2-clause-held : goal.write_inside-requires-2-clause-held
write_inside-requires-2-clause-held g c = second_still c.in_ok-write_inside.ensures.extends c.args.heap.now c.write_inside.new.heap c.args.condition c.args.object c.args.first c.args.second c.requires.heap c.requires.known c.requires.held c.in_ok-write_inside.ensures.ok

pub returns-clause-extends : goal.returns-clause-extends
returns-clause-extends g c = Extends-trans c.in_ok-write_inside.ensures.extends c.in_ok-write_inside-2.ensures.extends

pub returns-clause-done : goal.returns-clause-done
returns-clause-done g c = λ p. cells-done c.in_ok-write_inside.ensures.extends c.args.heap.now c.write_inside.new.heap c.args.condition c.args.object c.args.first c.args.second c.requires.heap c.requires.known c.requires.held c.in_ok-write_inside.ensures.ok p c.write_inside-2.new.heap c.in_ok-write_inside-2.ensures.ok
