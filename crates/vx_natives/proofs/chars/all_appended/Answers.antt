use Rattle.std.proofs.Common.{◌≡◌, false, subst, sym, true}
use Rattle.vx_families.proofs.Operands.{one_answer}
use Rattle.vx_cond.proofs.CondLaws.{IsCond-of}
use Rattle.vx_group_states.specs.Answers.{answer_cmp}
use Rattle.vx_group_states.specs.declared.answer.Answer.{Answer}
use Rattle.vx_space.proofs.Spaces.{Extends-refl}
use Rattle.vx_natives.proofs.CharLaws.{appended_earlier, appended_law, text_known_more}
use Rattle.vx_natives.proofs.Leaves.{IsDoing-apart, IsDoing-end, IsPutting-start, IsPutting-step, leaf_ready}
use Rattle.vx_natives.specs.CallOrder.{call_cmp}
use Rattle.vx_natives.specs.Calls.{value_of_call}
use Rattle.vx_natives.specs.Chars.{IsAppended, is_text_known}
use Rattle.vx_natives.specs.declared.call.Call.{Call}
use Rattle.vx_natives.specs.declared.call.Call.TheVariants.{Illegal}
use Rattle.vx_natives.proofs.chars.all_appended.Goals as goal

pub loop-leaf-init : goal.loop-leaf-init
loop-leaf-init g c = IsPutting-start _ _ (g.met.S.Space.lawful c.args.space.now) c.args.heap.now c.args.pairs.now c.in_ok-answers.answers c.requires.heap (rw c.never.ensures at c.in_ok-answers.ensures.ok)

pub appended-requires : goal.appended-requires
appended-requires g c =
    let leaf = leaf_ready call_cmp _ (appended_law c.args.heap.now.texts) c.args.heap.now c.loop-leaf.heap c.args.pairs.now c.loop-leaf.leaf-index c.leaf-item.result c.loop-leaf.answers c.requires.pairs (rw c.leaves-leaves.ensures at c.loop-leaf-test.true) (rw c.leaves-leaves.ensures at c.leaf-item.is) c.loop-leaf.invariant.doing (g.met.S.Space.lawful c.args.space.now) in
    let P : Call → Type 0 = λ call. is_text_known c.args.heap.now.texts (value_of_call false call) ≡ true in
    text_known_more c.args.heap.now.texts c.loop-leaf.heap.texts c.loop-leaf.invariant.more.earlier (value_of_call false c.leaf-item.result.value) (subst P (leaf.is Illegal leaf.some.config leaf.some.inside) (c.requires.known leaf.some.config (leaf.inside leaf.some.config leaf.some.inside)))

pub one-requires-in-loop-leaf : goal.one-requires-in-loop-leaf
one-requires-in-loop-leaf g c = (leaf_ready call_cmp _ (appended_law c.args.heap.now.texts) c.args.heap.now c.loop-leaf.heap c.args.pairs.now c.loop-leaf.leaf-index c.leaf-item.result c.loop-leaf.answers c.requires.pairs (rw c.leaves-leaves.ensures at c.loop-leaf-test.true) (rw c.leaves-leaves.ensures at c.leaf-item.is) c.loop-leaf.invariant.doing (g.met.S.Space.lawful c.args.space.now)).known

pub join-requires-clause-first : goal.join-requires-clause-first
join-requires-clause-first g c = c.loop-leaf.invariant.doing.is_cond

pub join-requires-clause-second : goal.join-requires-clause-second
join-requires-clause-second g c = IsCond-of answer_cmp _ _ c.in_ok-part.part c.in_ok-part.ensures.ok

pub join-requires-clause-disjoint : goal.join-requires-clause-disjoint
join-requires-clause-disjoint g c = rw c.in_ok-part.ensures.scope (IsDoing-apart call_cmp _ (appended_law c.args.heap.now.texts) c.args.heap.now c.loop-leaf.heap c.args.pairs.now c.loop-leaf.leaf-index c.leaf-item.result c.loop-leaf.answers c.requires.pairs (rw c.leaves-leaves.ensures at c.loop-leaf-test.true) (rw c.leaves-leaves.ensures at c.leaf-item.is) c.loop-leaf.invariant.doing (Extends-refl _))

pub loop-leaf-preserved : goal.loop-leaf-preserved
loop-leaf-preserved g c =
    let s1 = g.S.Space.sets c.loop-leaf.space in
    let before = c.args.heap.now in
    let now = c.loop-leaf.heap in
    let after = c.appended.new.heap in
    let x = c.leaf-item.result in
    let answer = c.in_ok-answer.answer in
    let leaf = leaf_ready call_cmp _ (appended_law c.args.heap.now.texts) c.args.heap.now c.loop-leaf.heap c.args.pairs.now c.loop-leaf.leaf-index c.leaf-item.result c.loop-leaf.answers c.requires.pairs (rw c.leaves-leaves.ensures at c.loop-leaf-test.true) (rw c.leaves-leaves.ensures at c.leaf-item.is) c.loop-leaf.invariant.doing (g.met.S.Space.lawful c.args.space.now) in
    let known : is_text_known before.texts (value_of_call false x.value) ≡ true =
    (let P : Call → Type 0 = λ call. is_text_known before.texts (value_of_call false call) ≡ true in
    subst P (leaf.is Illegal leaf.some.config leaf.some.inside) (c.requires.known leaf.some.config (leaf.inside leaf.some.config leaf.some.inside))) in
    let made = appended_earlier before.texts now.texts after.texts c.loop-leaf.invariant.more.earlier x.value answer known c.in_ok-answer.ensures.ok in
    IsPutting-step call_cmp _ (appended_law before.texts) before now after c.args.pairs.now c.loop-leaf.leaf-index x c.loop-leaf.answers c.in_ok-part.part c.in_ok-answers-2.answers c.requires.pairs (rw c.leaves-leaves.ensures at c.loop-leaf-test.true) (rw c.leaves-leaves.ensures at c.leaf-item.is) c.loop-leaf.invariant (Extends-refl s1) c.in_ok-answers-2.ensures.extends c.in_ok-answer.ensures.more (IsCond-of answer_cmp _ _ c.in_ok-part.part c.in_ok-part.ensures.ok) c.in_ok-part.ensures.scope
    (λ d t.
    let P : Answer → Type 0 = IsAppended before.texts after.texts x.value in
    subst P (sym (one_answer s1 x.condition answer c.in_ok-part.part c.in_ok-part.ensures.ok d t)) made)
    c.in_ok-answers-2.ensures.ok

pub returns-clause-extends : goal.returns-clause-extends
returns-clause-extends g c = c.loop-leaf.invariant.doing.extends

pub returns-clause-more : goal.returns-clause-more
returns-clause-more g c = c.loop-leaf.invariant.more

pub returns-clause-ok : goal.returns-clause-ok
returns-clause-ok g c = IsDoing-end Illegal call_cmp _ (g.met.S.Space.lawful c.loop-leaf.space) c.args.heap.now c.loop-leaf.heap c.args.pairs.now c.loop-leaf.leaf-index c.loop-leaf.answers c.requires.pairs (rw c.leaves-leaves.ensures at c.loop-leaf-test.false) c.loop-leaf.invariant.doing
