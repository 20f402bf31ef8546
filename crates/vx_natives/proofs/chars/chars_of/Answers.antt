use Rattle.std.proofs.Common.{◌∙◌, ap, subst, sym}
use Rattle.vx_cells.proofs.WrittenThrough.{reference_held}
use Rattle.vx_cond.proofs.CondLaws.{IsCond-of}
use Rattle.vx_families.proofs.MoreTexts.{HasMoreTexts-refl}
use Rattle.vx_families.proofs.Operands.{one_answer}
use Rattle.vx_group_states.specs.Answering.{answer_at, slot_by}
use Rattle.vx_group_states.specs.Answers.{answer_cmp}
use Rattle.vx_group_states.specs.declared.answer.Answer.TheVariants as answer
use Rattle.vx_heap.specs.Heap.{is_held}
use Rattle.vx_value.specs.declared.slot.Slot.{Slot}
use Rattle.vx_natives.proofs.CharLaws.{cells_given_number, chars_are_read, no_array_read}
use Rattle.vx_natives.specs.Readings.{IsCharsRead}
use Rattle.vx_natives.proofs.chars.chars_of.Goals as goal

pub chars_given-requires-clause-reference : goal.chars_given-requires-clause-reference
chars_given-requires-clause-reference g c =
    let s0 = g.S.Space.sets c.args.space.now in
    let d = c.requires.somewhere.config in
    (reference_held s0 c.args.heap.now d c.in-Ref.reference (ap (is_held s0 c.args.heap.now d) (sym c.in-Ref.is) ∙ c.requires.held d c.requires.somewhere.inside)).0

pub chars_given-requires-clause-inside : goal.chars_given-requires-clause-inside
chars_given-requires-clause-inside g c =
    let s0 = g.S.Space.sets c.args.space.now in
    record { inside = λ d t. (reference_held s0 c.args.heap.now d c.in-Ref.reference (ap (is_held s0 c.args.heap.now d) (sym c.in-Ref.is) ∙ c.requires.held d t)).1 }

pub returns-in_ok-read-in-Ref-clause-at : goal.returns-in_ok-read-in-Ref-clause-at
returns-in_ok-read-in-Ref-clause-at g c = λ d t.
    let s0 = g.S.Space.sets c.args.space.now in
    let s1 = g.S.Space.sets c.chars_given.new.space in
    let there = reference_held s0 c.args.heap.now d c.in-Ref.reference (ap (is_held s0 c.args.heap.now d) (sym c.in-Ref.is) ∙ c.requires.held d t) in
    let number = cells_given_number c.in_ok-read-in-Ref.ensures.extends c.args.heap.now c.chars_given.new.heap d c.in-Ref.reference c.requires.heap c.in_ok-read-in-Ref.ensures.more there.0 there.1 in
    let P : Slot → Type 0 = λ array. IsCharsRead s1 c.chars_given.new.heap d array (slot_by (answer_at s1 c.in_ok-read-in-Ref.read d)) in
    subst P (sym c.in-Ref.is) (chars_are_read s1 c.chars_given.new.heap d c.in-Ref.reference _ _ number (c.in_ok-read-in-Ref.ensures.at d t))

pub returns-in_ok-none-in_default-clause-at : goal.returns-in_ok-none-in_default-clause-at
returns-in_ok-none-in_default-clause-at g c = λ d t. no_array_read _ c.args.heap.now d c.args.array _ c.in_default.not-Ref (one_answer _ c.args.condition answer.Pass c.in_ok-none-in_default.none c.in_ok-none-in_default.ensures.ok d t)

pub returns-in_ok-none-in_default-clause-more : goal.returns-in_ok-none-in_default-clause-more
returns-in_ok-none-in_default-clause-more g c = HasMoreTexts-refl c.args.heap.now

pub returns-in_ok-none-in_default-clause-cond : goal.returns-in_ok-none-in_default-clause-cond
returns-in_ok-none-in_default-clause-cond g c = IsCond-of answer_cmp _ _ c.in_ok-none-in_default.none c.in_ok-none-in_default.ensures.ok
