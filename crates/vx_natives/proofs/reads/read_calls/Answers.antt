use Rattle.std.proofs.Common.{◌∙◌, ap, subst, sym}
use Rattle.std.specs.Prelude.{unwrap_or}
use Rattle.vx_cond.proofs.CondLaws.{IsCond-extends, cond_at-extends}
use Rattle.vx_families.proofs.MoreTexts.{Grows-texts, HasMoreTexts-refl, HasMoreTexts-trans, IsHeap-texts, globals_at-texts}
use Rattle.vx_heap.proofs.HeapLaws.{IsHeap-extends, globals_at-extends}
use Rattle.vx_heap.proofs.Known.{cond_known}
use Rattle.vx_space.proofs.Spaces.{Extends-trans}
use Rattle.vx_natives.proofs.PutBehind.{AreCallsHeld-grown, both_read, call_held-grown, none_read, one_read}
use Rattle.vx_natives.specs.CallOrder.{call_cmp}
use Rattle.vx_natives.specs.Calls.{call_at}
use Rattle.vx_natives.specs.Readings.{IsBehind}
use Rattle.vx_natives.specs.declared.call.Call.{Call}
use Rattle.vx_natives.specs.declared.call.Call.TheVariants.{Illegal}
use Rattle.vx_natives.proofs.reads.read_calls.Goals as goal

pub returns-in_default-clause-more : goal.returns-in_default-clause-more
returns-in_default-clause-more g c = HasMoreTexts-refl c.args.heap.now

pub returns-in_default-clause-at : goal.returns-in_default-clause-at
returns-in_default-clause-at g c = λ d t.
    let s0 = g.S.Space.sets c.args.space.now in
    none_read s0 c.args.heap.now d c.args.behaviour (call_at s0 c.args.calls d) (sym c.first_reading.ensures ∙ c.in_default.is)

pub returns-in_default-second_reading-clause-at : goal.returns-in_default-second_reading-clause-at
returns-in_default-second_reading-clause-at g c = λ d t.
    let s0 = g.S.Space.sets c.args.space.now in
    let s1 = g.S.Space.sets c.with_reading.new.space in
    one_read s1 c.with_reading.new.heap d c.args.behaviour c.in-Some.first (call_at s0 c.args.calls d) (call_at s1 c.in_ok-one.one d) (sym c.first_reading.ensures ∙ c.in-Some.is) (sym c.second_reading.ensures ∙ c.in_default-second_reading.is) (c.in_ok-one.ensures.at d t)

pub with_reading-requires-2-clause-heap : goal.with_reading-requires-2-clause-heap
with_reading-requires-2-clause-heap g c = IsHeap-texts _ c.args.heap.now c.with_reading.new.heap c.in_ok-one.ensures.more (IsHeap-extends c.in_ok-one.ensures.extends c.args.heap.now c.requires.heap)

pub with_reading-requires-2-clause-source : goal.with_reading-requires-2-clause-source
with_reading-requires-2-clause-source g c = IsCond-extends call_cmp c.in_ok-one.ensures.extends c.args.calls c.requires.calls

pub with_reading-requires-2-clause-held : goal.with_reading-requires-2-clause-held
with_reading-requires-2-clause-held g c = AreCallsHeld-grown c.in_ok-one.ensures.extends c.args.heap.now c.with_reading.new.heap c.requires.heap (Grows-texts c.args.heap.now c.with_reading.new.heap c.in_ok-one.ensures.more) c.args.calls c.requires.calls c.requires.held

pub with_reading-requires-2-clause-calls : goal.with_reading-requires-2-clause-calls
with_reading-requires-2-clause-calls g c = c.in_ok-one.ensures.cond

pub with_reading-requires-2-clause-scope : goal.with_reading-requires-2-clause-scope
with_reading-requires-2-clause-scope g c = c.in_ok-one.ensures.scope

pub returns-clause-more : goal.returns-clause-more
returns-clause-more g c = HasMoreTexts-trans c.args.heap.now c.with_reading.new.heap c.with_reading-2.new.heap c.in_ok-one.ensures.more c.in_ok-both.ensures.more

pub returns-clause-at : goal.returns-clause-at
returns-clause-at g c = λ d t.
    let s0 = g.S.Space.sets c.args.space.now in
    let s1 = g.S.Space.sets c.with_reading.new.space in
    let s2 = g.S.Space.sets c.with_reading-2.new.space in
    let e = c.in_ok-one.ensures.extends in
    let f = c.in_ok-both.ensures.extends in
    let before = c.args.heap.now in
    let now = c.with_reading.new.heap in
    let after = c.with_reading-2.new.heap in
    let calls = c.args.calls in
    let call = call_at s0 calls d in
    let is_heap = IsHeap-texts s1 before now c.in_ok-one.ensures.more (IsHeap-extends e before c.requires.heap) in
    let later = e.test calls.scope d (cond_known call_cmp s0 calls c.requires.calls).0 ∙ t in
    let P : Call → Type 0 = λ k. IsBehind s2 after d c.in-Some-second_reading.second k (call_at s1 c.in_ok-one.one d) (call_at s2 c.in_ok-both.both d) in
    let second = subst P (ap (λ o. unwrap_or o Illegal) (cond_at-extends call_cmp e calls c.requires.calls d)) (c.in_ok-both.ensures.at d later) in
    both_read f now after is_heap (Grows-texts now after c.in_ok-both.ensures.more) d c.args.behaviour c.in-Some.first c.in-Some-second_reading.second call (call_at s1 c.in_ok-one.one d) (call_at s2 c.in_ok-both.both d) (sym c.first_reading.ensures ∙ c.in-Some.is) (sym c.second_reading.ensures ∙ c.in-Some-second_reading.is) (globals_at-texts s2 now after c.in_ok-both.ensures.more (IsHeap-extends f now is_heap) d ∙ globals_at-extends f now is_heap d) (call_held-grown e before now c.requires.heap (Grows-texts before now c.in_ok-one.ensures.more) d call (c.requires.held.held d t)) (c.in_ok-one.ensures.at d t) second

pub returns-clause-extends : goal.returns-clause-extends
returns-clause-extends g c = Extends-trans c.in_ok-one.ensures.extends c.in_ok-both.ensures.extends

pub returns-clause-cond : goal.returns-clause-cond
returns-clause-cond g c = c.in_ok-both.ensures.cond

pub returns-clause-scope : goal.returns-clause-scope
returns-clause-scope g c = c.in_ok-both.ensures.scope
