use Rattle.std.proofs.Common.{◌≡◌, ◌∙◌, true, ap, subst}
use Rattle.vx_cond.proofs.CondLaws.{IsCond-extends}
use Rattle.vx_families.proofs.MoreTexts.{Grows-texts, HasMoreTexts-trans}
use Rattle.vx_group_states.proofs.GrownStates.{all_kept}
use Rattle.vx_group_states.specs.Answering.{answer_at, slot_by}
use Rattle.vx_group_states.specs.Answers.{answer_cmp}
use Rattle.vx_heap.proofs.Growing.{is_held-grown}
use Rattle.vx_heap.specs.Heap.{are_held, is_held}
use Rattle.vx_space.proofs.Spaces.{Extends-trans}
use Rattle.vx_value.specs.declared.slot.Slot.{Slot}
use Rattle.vx_natives.proofs.CellLaws.{value_held, value_is}
use Rattle.vx_natives.proofs.CharLaws.{read_law}
use Rattle.vx_natives.proofs.Leaves.{IsDoing-apart, IsDoing-end, IsPutting-start, IsPutting-step, leaf_ready}
use Rattle.vx_natives.specs.CallOrder.{call_cmp}
use Rattle.vx_natives.specs.Calls.{value_of_call, values_of}
use Rattle.vx_natives.specs.Readings.{IsCharsRead}
use Rattle.vx_natives.specs.declared.call.Call.{Call}
use Rattle.vx_natives.specs.declared.call.Call.TheVariants.{Illegal}
use Rattle.vx_natives.specs.declared.readings.Reading.TheVariants.{Chars}
use Rattle.vx_natives.proofs.chars.chars_read.Goals as goal

pub loop-leaf-init : goal.loop-leaf-init
loop-leaf-init g c = IsPutting-start _ _ (g.met.S.Space.lawful c.args.space.now) c.args.heap.now c.args.calls.now c.in_ok-texts.texts c.requires.heap (rw c.never.ensures at c.in_ok-texts.ensures.ok)

pub chars_of-requires-clause-heap : goal.chars_of-requires-clause-heap
chars_of-requires-clause-heap g c = c.loop-leaf.invariant.doing.kept.is_heap

pub chars_of-requires-clause-known : goal.chars_of-requires-clause-known
chars_of-requires-clause-known g c = (leaf_ready call_cmp _ (read_law (Chars c.args.is_second)) c.args.heap.now c.loop-leaf.heap c.args.calls.now c.loop-leaf.leaf-index c.leaf-item.result c.loop-leaf.texts c.requires.calls (rw c.leaves-leaves.ensures at c.loop-leaf-test.true) (rw c.leaves-leaves.ensures at c.leaf-item.is) c.loop-leaf.invariant.doing (g.met.S.Space.lawful c.args.space.now)).known

pub chars_of-requires-clause-somewhere : goal.chars_of-requires-clause-somewhere
chars_of-requires-clause-somewhere g c = (leaf_ready call_cmp _ (read_law (Chars c.args.is_second)) c.args.heap.now c.loop-leaf.heap c.args.calls.now c.loop-leaf.leaf-index c.leaf-item.result c.loop-leaf.texts c.requires.calls (rw c.leaves-leaves.ensures at c.loop-leaf-test.true) (rw c.leaves-leaves.ensures at c.leaf-item.is) c.loop-leaf.invariant.doing (g.met.S.Space.lawful c.args.space.now)).some

pub chars_of-requires-clause-held : goal.chars_of-requires-clause-held
chars_of-requires-clause-held g c = λ d t.
    let s0 = g.S.Space.sets c.args.space.now in
    let s1 = g.S.Space.sets c.loop-leaf.space in
    let so = c.loop-leaf.invariant.doing in
    let call = c.leaf-item.result.value in
    let leaf = leaf_ready call_cmp _ (read_law (Chars c.args.is_second)) c.args.heap.now c.loop-leaf.heap c.args.calls.now c.loop-leaf.leaf-index c.leaf-item.result c.loop-leaf.texts c.requires.calls (rw c.leaves-leaves.ensures at c.loop-leaf-test.true) (rw c.leaves-leaves.ensures at c.leaf-item.is) c.loop-leaf.invariant.doing (g.met.S.Space.lawful c.args.space.now) in
    let P : Call → Type 0 = λ k. are_held s0 c.args.heap.now d (values_of k) ≡ true in
    let there = subst P (leaf.is Illegal d t) (c.requires.held.held d (leaf.inside d t)) in
    ap (is_held s1 c.loop-leaf.heap d) c.value_of_call-array.ensures
    ∙ is_held-grown so.extends c.args.heap.now c.loop-leaf.heap c.requires.heap so.kept.grows d (value_of_call c.args.is_second call) (value_held s0 c.args.heap.now d c.args.is_second call there)

pub join-requires-clause-first : goal.join-requires-clause-first
join-requires-clause-first g c = IsCond-extends answer_cmp c.in_ok-part.ensures.extends c.loop-leaf.texts c.loop-leaf.invariant.doing.is_cond

pub join-requires-clause-second : goal.join-requires-clause-second
join-requires-clause-second g c = c.in_ok-part.ensures.cond

pub join-requires-clause-disjoint : goal.join-requires-clause-disjoint
join-requires-clause-disjoint g c = rw c.in_ok-part.ensures.scope (IsDoing-apart call_cmp _ (read_law (Chars c.args.is_second)) c.args.heap.now c.loop-leaf.heap c.args.calls.now c.loop-leaf.leaf-index c.leaf-item.result c.loop-leaf.texts c.requires.calls (rw c.leaves-leaves.ensures at c.loop-leaf-test.true) (rw c.leaves-leaves.ensures at c.leaf-item.is) c.loop-leaf.invariant.doing c.in_ok-part.ensures.extends)

pub loop-leaf-preserved : goal.loop-leaf-preserved
loop-leaf-preserved g c =
    let s0 = g.S.Space.sets c.args.space.now in
    let s2 = g.S.Space.sets c.chars_of.new.space in
    let before = c.args.heap.now in
    let now = c.loop-leaf.heap in
    let after = c.chars_of.new.heap in
    let x = c.leaf-item.result in
    let so = c.loop-leaf.invariant.doing in
    let e = c.in_ok-part.ensures.extends in
    let leaf = leaf_ready call_cmp _ (read_law (Chars c.args.is_second)) c.args.heap.now c.loop-leaf.heap c.args.calls.now c.loop-leaf.leaf-index c.leaf-item.result c.loop-leaf.texts c.requires.calls (rw c.leaves-leaves.ensures at c.loop-leaf-test.true) (rw c.leaves-leaves.ensures at c.leaf-item.is) c.loop-leaf.invariant.doing (g.met.S.Space.lawful c.args.space.now) in
    IsPutting-step call_cmp _ (read_law (Chars c.args.is_second)) before now after c.args.calls.now c.loop-leaf.leaf-index x c.loop-leaf.texts c.in_ok-part.part c.in_ok-texts-2.texts c.requires.calls (rw c.leaves-leaves.ensures at c.loop-leaf-test.true) (rw c.leaves-leaves.ensures at c.leaf-item.is) c.loop-leaf.invariant e c.in_ok-texts-2.ensures.extends c.in_ok-part.ensures.more c.in_ok-part.ensures.cond c.in_ok-part.ensures.scope
    (λ d t.
    let P : Slot → Type 0 = λ array. IsCharsRead s2 after d array (slot_by (answer_at s2 c.in_ok-part.part d)) in
    let Q : Call → Type 0 = λ k. are_held s0 before d (values_of k) ≡ true in
    let read = subst P (c.value_of_call-array.ensures ∙ value_is c.args.is_second x.value) (c.in_ok-part.ensures.at d t) in
    record {
      reading = record { reading = read.reading; held = read.held };
      held = all_kept (is_held s0 before d) (is_held s2 after d) (is_held-grown (Extends-trans so.extends e) before after c.requires.heap (Grows-texts before after (HasMoreTexts-trans before now after c.loop-leaf.invariant.more c.in_ok-part.ensures.more)) d) (values_of x.value) (subst Q (leaf.is Illegal d t) (c.requires.held.held d (leaf.inside d t)));
    })
    c.in_ok-texts-2.ensures.ok

pub returns-clause-extends : goal.returns-clause-extends
returns-clause-extends g c = c.loop-leaf.invariant.doing.extends

pub returns-clause-more : goal.returns-clause-more
returns-clause-more g c = c.loop-leaf.invariant.more

pub returns-clause-ok : goal.returns-clause-ok
returns-clause-ok g c = IsDoing-end Illegal call_cmp _ (g.met.S.Space.lawful c.loop-leaf.space) c.args.heap.now c.loop-leaf.heap c.args.calls.now c.loop-leaf.leaf-index c.loop-leaf.texts c.requires.calls (rw c.leaves-leaves.ensures at c.loop-leaf-test.false) c.loop-leaf.invariant.doing
