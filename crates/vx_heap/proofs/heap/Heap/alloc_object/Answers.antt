use Rattle.vx_java.specs.FirstObjects.{new_cells}
use Rattle.vx_heap.proofs.Making.{MakesObject-put, slots_begin}
use Rattle.vx_heap.proofs.heap.Heap.alloc_object.Goals as goal

pub returns : goal.returns
returns g c =
    let middle = c.put_text.new.self in
    let slots = c.in_ok-slots.slots.items in
    let values = new_cells c.args.program.now c.args.class.0 in
    let put = c.in_ok-empty.ensures.ok in
    rw (c.in_ok-reference.ensures.ok, c.in_ok-reference.ensures.made, c.in_ok-cells.ensures, c.deref.ensures.value)
    (MakesObject-put c.args.self.now middle c.args.class c.args.path slots values put.same put.earlier (slots_begin c.in_ok-empty.empty middle.texts slots values put.text c.in_ok-slots.ensures))
