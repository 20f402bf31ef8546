use Rattle.std.proofs.Common.{◌≡◌, ◌∙◌, ap, arith, length, map}
use Rattle.std.proofs.lemmas.List.{length-map}
use Rattle.vx_effects.specs.Elements.{char_slot}
use Rattle.vx_effects.proofs.Carried.{chars_made-done}
use Rattle.vx_effects.proofs.Elements.{elements_plain}
use Rattle.vx_effects.proofs.giving.give_chars.Goals as goal

pub alloc_cells-requires-clause-size : goal.alloc_cells-requires-clause-size
alloc_cells-requires-clause-size g c = c.in_ok-size.ensures.short

pub alloc_cells-requires-clause-slots : goal.alloc_cells-requires-clause-slots
alloc_cells-requires-clause-slots g c = rw (c.deref-3.ensures.value, c.in_ok-elements.ensures) (elements_plain (length c.args.heap.now.texts) c.deref-2.result.now)

pub alloc_cells-requires-clause-enough : goal.alloc_cells-requires-clause-enough
alloc_cells-requires-clause-enough g c =
    let number : c.in_ok-size.size ≡ length c.args.units.items = c.in_ok-size.ensures.count ∙ ap length c.deref.ensures.value in
    let slots : length c.deref-3.result.now ≡ length c.args.units.items =
    ap length (c.deref-3.ensures.value ∙ c.in_ok-elements.ensures) ∙ length-map c.deref-2.result.now char_slot ∙ ap length c.deref-2.ensures.value in
    omega (arith, number, slots)

pub returns : goal.returns
returns g c = λ sets v known held. chars_made-done c.args.program.now sets c.args.heap.now c.alloc_cells.new.self c.args.condition c.args.units.items c.in_ok-elements.elements.items c.in_ok-size.size c.array_of_primitives-class.result c.in_ok-reference.reference v (c.in_ok-elements.ensures ∙ ap (map char_slot) c.deref-2.ensures.value) (c.in_ok-size.ensures.count ∙ ap length c.deref.ensures.value) c.array_of_primitives-class.ensures known (rw c.deref-3.ensures.value at (c.in_ok-reference.ensures.ok sets))
