use Rattle.std.proofs.Common.{[], ◌∷◌}
use Rattle.vx_java.specs.Machine.{Text as TextValue}
use Rattle.vx_value.specs.declared.slot.Slot.TheVariants.{Text}
use Rattle.vx_heap.proofs.Making.{MakesObject-put, text_begins}
use Rattle.vx_heap.proofs.heap.Heap.alloc_text.Goals as goal

pub returns : goal.returns
returns g c =
    let middle = c.put_text.new.self in
    let put = c.in_ok-text.ensures.ok in
    rw (c.in_ok-reference.ensures.ok, c.in_ok-reference.ensures.made, c.in_ok-cells.ensures)
    (MakesObject-put c.args.self.now middle c.args.class c.args.path (Text c.in_ok-text.text ∷ []) (TextValue c.args.units.now ∷ []) put.same put.earlier (text_begins middle.texts c.in_ok-text.text c.args.units.now put.text))
