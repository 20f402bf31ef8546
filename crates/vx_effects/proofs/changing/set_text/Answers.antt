use Rattle.std.proofs.Common.{◌≡◌, ap, sym, ◌∙◌}
use Rattle.vx_families.proofs.MoreTexts.{HasMoreTexts-put, IsHeap-texts}
use Rattle.vx_natives.specs.Deeds.{text_with}
use Rattle.vx_effects.proofs.Carried.{changed-done, known_somewhere, object_of_text, set-done, start_of_text, number_held, object_later}
use Rattle.vx_effects.proofs.changing.set_text.Goals as goal

pub text_number-requires : goal.text_number-requires
text_number-requires g c = known_somewhere _ c.args.heap.now c.args.condition c.args.start c.requires.somewhere (start_of_text _ c.args.heap.now c.args.condition c.args.object c.args.start c.args.units.now c.requires.held)

pub write_inside-requires-clause-heap : goal.write_inside-requires-clause-heap
write_inside-requires-clause-heap g c = IsHeap-texts _ c.args.heap.now c.text_number.new.heap (HasMoreTexts-put c.args.heap.now c.text_number.new.heap _ c.in_ok-number.number c.in_ok-number.ensures) c.requires.heap

pub write_inside-requires-clause-object : goal.write_inside-requires-clause-object
write_inside-requires-clause-object g c = object_later _ c.args.heap.now c.text_number.new.heap c.args.condition c.args.object (HasMoreTexts-put c.args.heap.now c.text_number.new.heap _ c.in_ok-number.number c.in_ok-number.ensures) c.requires.heap (object_of_text _ c.args.heap.now c.args.condition c.args.object c.args.start c.args.units.now c.requires.held)

pub write_inside-requires-clause-held : goal.write_inside-requires-clause-held
write_inside-requires-clause-held g c = λ d t. number_held (g.S.Space.sets c.args.space.now) c.text_number.new.heap d c.in_ok-number.number _ c.in_ok-number.ensures.text

pub returns-clause-set : goal.returns-clause-set
returns-clause-set g c = λ p. set-done p c.in_ok-write_inside.ensures.extends c.args.heap.now c.text_number.new.heap c.write_inside.new.heap c.args.condition c.args.object c.in_ok-number.number c.args.start c.args.units.now c.requires.heap c.in_ok-number.ensures (object_of_text _ c.args.heap.now c.args.condition c.args.object c.args.start c.args.units.now c.requires.held) c.in_ok-write_inside.ensures.ok

pub returns-clause-changed : goal.returns-clause-changed
returns-clause-changed g c = λ p. changed-done p c.in_ok-write_inside.ensures.extends c.args.heap.now c.text_number.new.heap c.write_inside.new.heap c.args.condition c.args.object c.in_ok-number.number c.args.start c.args.units.now c.requires.heap c.in_ok-number.ensures (object_of_text _ c.args.heap.now c.args.condition c.args.object c.args.start c.args.units.now c.requires.held) c.in_ok-write_inside.ensures.ok
