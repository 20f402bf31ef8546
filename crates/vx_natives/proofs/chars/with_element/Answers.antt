use Rattle.std.proofs.Common.{◌≡◌, ◌∙◌, true, ap, sym}
use Rattle.vx_cond.proofs.CondLaws.{IsCond-extends, cond_at-extends}
use Rattle.vx_cond.specs.Slots.{slot_at}
use Rattle.vx_families.proofs.Tops.{lifting2_cond, made_of_two, value_there}
use Rattle.vx_group_states.specs.Answering.{answer_at, slot_by}
use Rattle.vx_group_states.specs.Answers.{answer_cmp}
use Rattle.vx_group_states.specs.declared.answer.Answer.TheVariants as answer
use Rattle.vx_heap.proofs.HeapLaws.{IsHeap-extends}
use Rattle.vx_space.proofs.Spaces.{Extends-trans}
use Rattle.vx_value.specs.Slot.{slot_cmp}
use Rattle.vx_value.specs.declared.slot.Slot.TheVariants.{Top}
use Rattle.vx_natives.proofs.CharLaws.{cells_later, cells_number, element_given, pair_known}
use Rattle.vx_natives.specs.CallOrder.{call_cmp}
use Rattle.vx_natives.specs.Calls.{call_at}
use Rattle.vx_natives.specs.Readings.{chars_at}
use Rattle.vx_natives.specs.declared.call.Call.TheVariants.{Illegal, Two}
use Rattle.vx_natives.proofs.chars.with_element.Goals as goal

pub zip-requires-clause-first : goal.zip-requires-clause-first
zip-requires-clause-first g c = IsCond-extends answer_cmp c.in_ok-element.ensures.extends c.args.texts.now c.requires.texts

pub zip-requires-clause-second : goal.zip-requires-clause-second
zip-requires-clause-second g c = c.in_ok-element.ensures.ok.is_cond

pub zip-requires-clause-scopes : goal.zip-requires-clause-scopes
zip-requires-clause-scopes g c = c.requires.scope ∙ sym c.in_ok-element.ensures.ok.scope

pub all_appended-requires-clause-heap : goal.all_appended-requires-clause-heap
all_appended-requires-clause-heap g c = IsHeap-extends (Extends-trans c.in_ok-element.ensures.extends c.in_ok-pairs.ensures.extends) c.args.heap.now c.requires.heap

pub all_appended-requires-clause-pairs : goal.all_appended-requires-clause-pairs
all_appended-requires-clause-pairs g c = lifting2_cond call_cmp _ _ _ _ c.in_ok-pairs.pairs c.in_ok-pairs.ensures.ok

pub all_appended-requires-clause-known : goal.all_appended-requires-clause-known
all_appended-requires-clause-known g c = λ d t.
    let s0 = g.S.Space.sets c.args.space.now in
    let s1 = g.S.Space.sets c.read_place.new.space in
    let s2 = g.S.Space.sets c.zip.new.space in
    let e = c.in_ok-element.ensures.extends in
    let f = c.in_ok-pairs.ensures.extends in
    let texts = c.args.texts.now in
    let element = c.in_ok-element.element in
    let inside : s0.test c.args.condition d ≡ true = sym ((Extends-trans e f).test c.args.condition d c.requires.known) ∙ ap (λ i. s2.test i d) (sym (c.in_ok-pairs.ensures.scope ∙ c.requires.scope)) ∙ t in
    let later : s1.test c.args.condition d ≡ true = e.test c.args.condition d c.requires.known ∙ inside in
    let is : call_at s2 c.in_ok-pairs.pairs d ≡ Two (slot_by (answer_at s0 texts d)) (slot_at s1 element d) =
    made_of_two Illegal call_cmp s1 s2 _ (λ text x. Two (slot_by text) x) texts element c.in_ok-pairs.pairs d (answer_at s0 texts d) (slot_at s1 element d) (λ text x k h. h)
    (cond_at-extends answer_cmp e texts c.requires.texts d ∙ value_there answer.Illegal answer_cmp s0 texts d c.requires.texts (ap (λ i. s0.test i d) c.requires.scope ∙ inside))
    (value_there Top slot_cmp s1 element d c.in_ok-element.ensures.ok.is_cond (ap (λ i. s1.test i d) c.in_ok-element.ensures.ok.scope ∙ later))
    c.in_ok-pairs.ensures.ok in
    pair_known c.args.heap.now.texts (chars_at s0 c.args.heap.now d c.args.reference c.args.cell) (answer_at s0 texts d) (slot_at s1 element d) (call_at s2 c.in_ok-pairs.pairs d) (c.requires.given d inside) is

pub returns-clause-cond : goal.returns-clause-cond
returns-clause-cond g c = c.in_ok-made.ensures.ok.is_cond

pub returns-clause-scope : goal.returns-clause-scope
returns-clause-scope g c = c.in_ok-made.ensures.ok.scope ∙ c.in_ok-pairs.ensures.scope ∙ c.requires.scope

pub returns-clause-at : goal.returns-clause-at
returns-clause-at g c = λ d t.
    let s0 = g.S.Space.sets c.args.space.now in
    let s1 = g.S.Space.sets c.read_place.new.space in
    let s2 = g.S.Space.sets c.zip.new.space in
    let s3 = g.S.Space.sets c.all_appended.new.space in
    let heap = c.args.heap.now in
    let after = c.all_appended.new.heap in
    let e = c.in_ok-element.ensures.extends in
    let f = c.in_ok-pairs.ensures.extends in
    let k = c.in_ok-made.ensures.extends in
    let texts = c.args.texts.now in
    let element = c.in_ok-element.element in
    let pairs = c.in_ok-pairs.pairs in
    let a = answer_at s3 c.in_ok-made.made d in
    let later : s1.test c.args.condition d ≡ true = e.test c.args.condition d c.requires.known ∙ t in
    let last : s2.test pairs.scope d ≡ true = ap (λ i. s2.test i d) (c.in_ok-pairs.ensures.scope ∙ c.requires.scope) ∙ (Extends-trans e f).test c.args.condition d c.requires.known ∙ t in
    let is : call_at s2 pairs d ≡ Two (slot_by (answer_at s0 texts d)) (slot_at s1 element d) =
    made_of_two Illegal call_cmp s1 s2 _ (λ text x. Two (slot_by text) x) texts element pairs d (answer_at s0 texts d) (slot_at s1 element d) (λ text x b h. h)
    (cond_at-extends answer_cmp e texts c.requires.texts d ∙ value_there answer.Illegal answer_cmp s0 texts d c.requires.texts (ap (λ i. s0.test i d) c.requires.scope ∙ t))
    (value_there Top slot_cmp s1 element d c.in_ok-element.ensures.ok.is_cond (ap (λ i. s1.test i d) c.in_ok-element.ensures.ok.scope ∙ later))
    c.in_ok-pairs.ensures.ok in
    let same = cells_later (Extends-trans (Extends-trans e f) k) heap after c.requires.heap c.in_ok-made.ensures.more d c.args.reference in
    let number = cells_number s0 heap d c.args.reference c.requires.reference (c.requires.inside.inside d t) in
    element_given s0 s1 s3 heap after d c.args.reference c.args.cell (answer_at s0 texts d) a (slot_at s1 element d) (call_at s2 pairs d) (c.requires.given d t) is (c.in_ok-element.ensures.ok.at d t) (rw number c.requires.cell) (c.in_ok-made.ensures.ok.at d last) same

pub returns-clause-extends : goal.returns-clause-extends
returns-clause-extends g c = Extends-trans c.in_ok-element.ensures.extends (Extends-trans c.in_ok-pairs.ensures.extends c.in_ok-made.ensures.extends)
