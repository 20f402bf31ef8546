use Rattle.std.proofs.Common.{◌∙◌, ap, sym}
use Rattle.vx_cond.proofs.CondLaws.{IsCond-extends, cond_at-extends}
use Rattle.vx_families.proofs.MoreTexts.{Grows-texts, IsHeap-texts}
use Rattle.vx_families.proofs.Tops.{lifting2_cond, made_of_two, value_there}
use Rattle.vx_group_states.proofs.GrownStates.{Grows-refl}
use Rattle.vx_group_states.specs.Answering.{answer_at, slot_by}
use Rattle.vx_group_states.specs.Answers.{answer_cmp}
use Rattle.vx_group_states.specs.declared.answer.Answer.TheVariants as answer
use Rattle.vx_heap.proofs.HeapLaws.{IsHeap-extends, globals_at-extends}
use Rattle.vx_heap.proofs.Known.{cond_known}
use Rattle.vx_space.proofs.Spaces.{Extends-trans}
use Rattle.vx_natives.proofs.CharLaws.{HasReading-grown}
use Rattle.vx_natives.proofs.PutBehind.{call_held-grown}
use Rattle.vx_natives.specs.CallOrder.{call_cmp}
use Rattle.vx_natives.specs.Calls.{call_at, with_value}
use Rattle.vx_natives.specs.declared.call.Call.TheVariants.{Illegal}
use Rattle.vx_natives.proofs.reads.with_reading.Goals as goal

pub zip-requires-clause-first : goal.zip-requires-clause-first
zip-requires-clause-first g c = IsCond-extends call_cmp c.in_ok-given.ensures.extends c.args.calls.now c.requires.calls

pub zip-requires-clause-scopes : goal.zip-requires-clause-scopes
zip-requires-clause-scopes g c = c.requires.scope ∙ sym c.in_ok-given.ensures.scope

pub returns-clause-cond : goal.returns-clause-cond
returns-clause-cond g c = lifting2_cond call_cmp _ _ _ _ c.in_ok-made.made c.in_ok-made.ensures.ok

pub returns-clause-scope : goal.returns-clause-scope
returns-clause-scope g c = c.in_ok-made.ensures.scope ∙ c.requires.scope

pub returns-clause-at : goal.returns-clause-at
returns-clause-at g c = λ d t.
    let s0 = g.S.Space.sets c.args.space.now in
    let s1 = g.S.Space.sets c.given_by.new.space in
    let s2 = g.S.Space.sets c.zip.new.space in
    let e = c.in_ok-given.ensures.extends in
    let f = c.in_ok-made.ensures.extends in
    let before = c.args.heap.now in
    let after = c.given_by.new.heap in
    let given = c.in_ok-given.given in
    let call = call_at s0 c.args.source.now d in
    let read = slot_by (answer_at s1 given d) in
    let later = e.test c.args.source.now.scope d (cond_known call_cmp s0 c.args.source.now c.requires.source).0 ∙ t in
    let more = c.in_ok-given.ensures.more in
    let is_heap = IsHeap-texts s1 before after more (IsHeap-extends e before c.requires.heap) in
    let held = call_held-grown e before after c.requires.heap (Grows-texts before after more) d call (c.requires.held.held d t) in (
      read,
      HasReading-grown f after after is_heap (Grows-refl after) d c.args.reading call read (globals_at-extends f after is_heap d) held (c.in_ok-given.ensures.at d t),
      made_of_two Illegal call_cmp s1 s2 _ (λ k a. with_value k (slot_by a)) c.args.calls.now given c.in_ok-made.made d (call_at s0 c.args.calls.now d) (answer_at s1 given d) (λ k a x h. h)
          (cond_at-extends call_cmp e c.args.calls.now c.requires.calls d ∙ value_there Illegal call_cmp s0 c.args.calls.now d c.requires.calls (ap (λ i. s0.test i d) c.requires.scope ∙ t))
          (value_there answer.Illegal answer_cmp s1 given d c.in_ok-given.ensures.cond (ap (λ i. s1.test i d) c.in_ok-given.ensures.scope ∙ later))
          c.in_ok-made.ensures.ok,
    )

pub returns-clause-extends : goal.returns-clause-extends
returns-clause-extends g c = Extends-trans c.in_ok-given.ensures.extends c.in_ok-made.ensures.extends
