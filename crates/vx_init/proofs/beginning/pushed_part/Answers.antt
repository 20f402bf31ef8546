use Rattle.std.proofs.Common.{◌∙◌, refl, sym}
use Rattle.vx_init.proofs.PartLaws.{chain-gives, few_fit, full-gives}
use Rattle.vx_init.proofs.beginning.pushed_part.Goals as goal

pub returns-then-too_many-clause-gives : goal.returns-then-too_many-clause-gives
returns-then-too_many-clause-gives g c =
    λ heap.
    let full = sym (rw (c.depth.ensures, c.deref.ensures.value) at c.too_many.ensures) ∙ c.if-too_many.true in
    full-gives c.args.program.now _ c.args.callers.now c.args.group _ _ c.in_ok-chain.ensures heap c.args.callers.now _ full (λ h s. c.in_ok-raised.ensures _ heap c.args.callers.now h s)

pub push_chain-requires-clause-depth : goal.push_chain-requires-clause-depth
push_chain-requires-clause-depth g c =
    let few = sym (rw (c.depth.ensures, c.deref.ensures.value) at c.too_many.ensures) ∙ c.if-too_many.false in
    rw c.deref-2.ensures.value (few_fit _ c.in_ok-chain.chain.items few)

pub returns-clause-gives : goal.returns-clause-gives
returns-clause-gives g c =
    λ heap.
    let few = sym (rw (c.depth.ensures, c.deref.ensures.value) at c.too_many.ensures) ∙ c.if-too_many.false in
    chain-gives c.args.program.now _ c.args.callers.now c.args.group _ _ c.in_ok-chain.ensures heap c.push_chain.new.callers c.in_ok-chain.chain.items c.in_ok-above.above _ refl few (rw c.deref-2.ensures.value at c.in_ok-above.ensures.pushed) c.in_ok-made.ensures.one
