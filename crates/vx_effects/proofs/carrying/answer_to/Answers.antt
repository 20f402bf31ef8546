use Rattle.std.proofs.Common.{◌∙◌, ap}
use Rattle.std.proofs.lemmas.Int.{to_z-of_z}
use Rattle.std.proofs.lemmas.Result.{IfOk-weaker}
use Rattle.std.specs.Int.{w32}
use Rattle.vx_effects.specs.Carrying.{integer_in}
use Rattle.vx_effects.proofs.Carried.{answered-done, known_somewhere, raised-done}
use Rattle.vx_effects.proofs.carrying.answer_to.Goals as goal

pub returns-in-Answer-clause-done : goal.returns-in-Answer-clause-done
returns-in-Answer-clause-done g c = rw c.in-Answer.is (answered-done c.args.program.now _ c.args.heap.now c.args.condition c.in-Answer.answer c.requires.heap (rw c.in-Answer.is at c.requires.held))

pub returns-in-Raise-clause-done : goal.returns-in-Raise-clause-done
returns-in-Raise-clause-done g c = rw c.in-Raise.is (raised-done c.args.program.now _ c.args.heap.now c.args.condition c.in-Raise.exception c.raised.ensures.0 c.raised.result c.raised.ensures.1 c.raised.ensures.2 c.requires.heap)

pub give_text-requires-clause-known : goal.give_text-requires-clause-known
give_text-requires-clause-known g c = known_somewhere _ c.args.heap.now c.args.condition c.in-GiveText.start c.requires.somewhere (rw c.in-GiveText.is at c.requires.held).held

pub returns-in-GiveText-clause-done : goal.returns-in-GiveText-clause-done
returns-in-GiveText-clause-done g c = rw c.in-GiveText.is (IfOk-weaker c.give_text.result _ _ (λ a h. h _ c.requires.heap c.requires.known (rw c.in-GiveText.is at c.requires.held)) c.give_text.ensures)

pub returns-in-GiveChars-clause-done : goal.returns-in-GiveChars-clause-done
returns-in-GiveChars-clause-done g c = rw c.in-GiveChars.is (IfOk-weaker c.give_chars.result _ _ (λ a h. h _ c.requires.heap c.requires.known (rw c.in-GiveChars.is at c.requires.held)) c.give_chars.ensures)

pub returns-in-GiveInteger-clause-done : goal.returns-in-GiveInteger-clause-done
returns-in-GiveInteger-clause-done g c =
    let same = to_z-of_z w32 c.integer_in-number.result (record { sfits = c.integer_in-number.type_inv }) ∙ c.integer_in-number.ensures ∙ ap integer_in c.in-GiveInteger.is in
    rw c.in-GiveInteger.is (IfOk-weaker c.give_integer.result _ _ (λ a h. h _ c.requires.heap c.requires.known (rw c.in-GiveInteger.is at c.requires.held)) (rw same at c.give_integer.ensures))

pub print-requires : goal.print-requires
print-requires g c = record { known = known_somewhere _ c.args.heap.now c.args.condition c.in-Print.start c.requires.somewhere (rw c.in-Print.is at c.requires.held).held }

pub returns-in-Print-clause-done : goal.returns-in-Print-clause-done
returns-in-Print-clause-done g c = rw c.in-Print.is (IfOk-weaker c.print.result _ _ (λ a h. h c.args.program.now c.args.condition _ c.requires.heap c.requires.known (rw c.in-Print.is at c.requires.held)) c.print.ensures)

pub text_set-requires-clause-held : goal.text_set-requires-clause-held
text_set-requires-clause-held g c = rw c.in-SetText.is at c.requires.held

pub returns-in-SetText-clause-done : goal.returns-in-SetText-clause-done
returns-in-SetText-clause-done g c = rw c.in-SetText.is (IfOk-weaker c.text_set.result _ _ (λ a h. h c.args.program.now) c.text_set.ensures.done)

pub text_changed-requires-clause-held : goal.text_changed-requires-clause-held
text_changed-requires-clause-held g c =
    let held = rw c.in-ChangeText.is at c.requires.held in
    record { held = held.held }

pub returns-in-ChangeText-clause-done : goal.returns-in-ChangeText-clause-done
returns-in-ChangeText-clause-done g c = rw c.in-ChangeText.is (IfOk-weaker c.text_changed.result _ _ (λ a h. h c.args.program.now) c.text_changed.ensures.done)

pub set_cells-requires-clause-held : goal.set_cells-requires-clause-held
set_cells-requires-clause-held g c = rw c.in-SetCells.is at c.requires.held

pub returns-in-SetCells-clause-done : goal.returns-in-SetCells-clause-done
returns-in-SetCells-clause-done g c = rw c.in-SetCells.is (IfOk-weaker c.set_cells.result _ _ (λ a h. h c.args.program.now) c.set_cells.ensures.done)
