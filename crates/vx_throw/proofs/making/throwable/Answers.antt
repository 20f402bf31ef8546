use Rattle.vx_space.proofs.Spaces.{Extends-trans}
use Rattle.vx_throw.proofs.MadeThrowables.{IsThrowableMade-of, cause_is_cond, cause_there, message_there, object_inside, object_within}
use Rattle.vx_throw.proofs.making.throwable.Goals as goal

pub write_inside-requires-clause-heap : goal.write_inside-requires-clause-heap
write_inside-requires-clause-heap g c = (c.in_ok-object.ensures (g.S.Space.sets c.args.space.now) c.requires.heap c.requires.known).changed.is_heap

pub write_inside-requires-clause-object : goal.write_inside-requires-clause-object
write_inside-requires-clause-object g c = (c.in_ok-object.ensures (g.S.Space.sets c.args.space.now) c.requires.heap c.requires.known).held

pub write_inside-requires-clause-held : goal.write_inside-requires-clause-held
write_inside-requires-clause-held g c =
    let made = c.in_ok-object.ensures (g.S.Space.sets c.args.space.now) c.requires.heap c.requires.known in
    message_there c.args.program.now c.args.heap.now c.alloc_object.new.self c.args.path c.args.class.0 c.args.message c.in_ok-object.object c.requires.heap c.requires.message made

pub write_cell-requires-clause-heap : goal.write_cell-requires-clause-heap
write_cell-requires-clause-heap g c = c.in_ok-write_inside.ensures.ok.is_heap

pub write_cell-requires-clause-reference : goal.write_cell-requires-clause-reference
write_cell-requires-clause-reference g c =
    let made = c.in_ok-object.ensures (g.S.Space.sets c.args.space.now) c.requires.heap c.requires.known in
    object_within c.args.program.now c.args.heap.now c.alloc_object.new.self c.write_inside.new.heap c.args.path c.args.class.0 c.args.message c.args.cause.now c.in_ok-object.object c.requires.heap c.requires.known c.requires.message c.requires.cause c.requires.scope c.requires.held made c.in_ok-write_inside.ensures.extends c.in_ok-write_inside.ensures.ok c.requires.somewhere

pub write_cell-requires-clause-value : goal.write_cell-requires-clause-value
write_cell-requires-clause-value g c =
    let made = c.in_ok-object.ensures (g.S.Space.sets c.args.space.now) c.requires.heap c.requires.known in
    cause_is_cond c.args.program.now c.args.heap.now c.alloc_object.new.self c.write_inside.new.heap c.args.path c.args.class.0 c.args.message c.args.cause.now c.in_ok-object.object c.requires.heap c.requires.known c.requires.message c.requires.cause c.requires.scope c.requires.held made c.in_ok-write_inside.ensures.extends c.in_ok-write_inside.ensures.ok

pub write_cell-requires-clause-inside : goal.write_cell-requires-clause-inside
write_cell-requires-clause-inside g c =
    let made = c.in_ok-object.ensures (g.S.Space.sets c.args.space.now) c.requires.heap c.requires.known in
    object_inside c.args.program.now c.args.heap.now c.alloc_object.new.self c.write_inside.new.heap c.args.path c.args.class.0 c.args.message c.args.cause.now c.in_ok-object.object c.requires.heap c.requires.known c.requires.message c.requires.cause c.requires.scope c.requires.held made c.in_ok-write_inside.ensures.extends c.in_ok-write_inside.ensures.ok

pub write_cell-requires-clause-held : goal.write_cell-requires-clause-held
write_cell-requires-clause-held g c =
    let made = c.in_ok-object.ensures (g.S.Space.sets c.args.space.now) c.requires.heap c.requires.known in
    cause_there c.args.program.now c.args.heap.now c.alloc_object.new.self c.write_inside.new.heap c.args.path c.args.class.0 c.args.message c.args.cause.now c.in_ok-object.object c.requires.heap c.requires.known c.requires.message c.requires.cause c.requires.scope c.requires.held made c.in_ok-write_inside.ensures.extends c.in_ok-write_inside.ensures.ok

pub returns-in_err-write_cell-clause-extends : goal.returns-in_err-write_cell-clause-extends
returns-in_err-write_cell-clause-extends g c = Extends-trans c.in_ok-write_inside.ensures.extends c.in_err-write_cell.ensures.extends

pub returns-clause-extends : goal.returns-clause-extends
returns-clause-extends g c = Extends-trans c.in_ok-write_inside.ensures.extends c.in_ok-write_cell.ensures.extends

pub returns-clause-made : goal.returns-clause-made
returns-clause-made g c =
    let made = c.in_ok-object.ensures (g.S.Space.sets c.args.space.now) c.requires.heap c.requires.known in
    IsThrowableMade-of c.args.program.now c.args.heap.now c.alloc_object.new.self c.write_inside.new.heap c.args.path c.args.class.0 c.args.message c.args.cause.now c.in_ok-object.object c.requires.heap c.requires.known c.requires.message c.requires.cause c.requires.scope c.requires.held made c.in_ok-write_inside.ensures.extends c.in_ok-write_inside.ensures.ok c.write_cell.new.self c.in_ok-write_cell.ensures.extends c.in_ok-write_cell.ensures.ok
