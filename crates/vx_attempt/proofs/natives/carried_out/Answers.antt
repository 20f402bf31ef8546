use Rattle.std.proofs.Common.{ap, arith, length, sym, ◌∙◌}
use Rattle.std.specs.Vec.Iter.{into_iter_items}
use Rattle.vx_space.proofs.Spaces.{Extends-trans}
use Rattle.vx_java.specs.Step.{outcome_carried_out}
use Rattle.vx_attempt.proofs.Calls.{AreAtCalls-later, AreThere-grown, all_known}
use Rattle.vx_attempt.proofs.Carrying.{AreCarriedOut-whole, ArePlain-placed, IsCarrying-end, IsCarrying-start, IsCarrying-step, IsPlain-carried, nothing_left}
use Rattle.vx_attempt.proofs.natives.carried_out.Goals as goal

pub loop-outcome-init : goal.loop-outcome-init
loop-outcome-init g c =
    let p = c.args.site.now.program.now in
    let gives = c.into_iter-outcome-iterator.ensures.into_iter_gives in
    let known = all_known p (g.S.Space.sets c.args.space.now) c.args.heap.now c.args.callers.now c.args.outcomes.items.items c.requires.may.there in (
      omega (arith, gives.1, ap length gives.0, c.args.outcomes.items.ok.0),
      (rw (gives.0, c.new-made.ensures) (IsCarrying-start p (outcome_carried_out p) (g.S.Space.sets c.args.space.now) c.args.heap.now c.args.callers.now c.args.outcomes.items.items c.requires.may.is_heap c.requires.may.is_for known), (rw gives.0 c.requires.may.there, rw gives.0 c.requires.at_calls)),
    )

pub one_carried_out-requires : goal.one_carried_out-requires
one_carried_out-requires g c =
    let k = rw c.in-Some.ensures.steps.0 at c.loop-outcome.invariant.1.0 in
    let t = rw c.in-Some.ensures.steps.0 at c.loop-outcome.invariant.1.1 in
    record { may = record { bounded = c.requires.may.bounded; is_heap = k.is_heap; is_for = k.is_for; there = (t.0.0, tt) }; at_calls = (t.1.0, tt) }

pub returns-in_err-some-clause-extends : goal.returns-in_err-some-clause-extends
returns-in_err-some-clause-extends g c = Extends-trans c.loop-outcome.invariant.1.0.extends c.in_err-some.ensures.extends

pub loop-outcome-preserved : goal.loop-outcome-preserved
loop-outcome-preserved g c =
    let p = c.args.site.now.program.now in
    let k = rw c.in-Some.ensures.steps.0 at c.loop-outcome.invariant.1.0 in
    let t = rw c.in-Some.ensures.steps.0 at c.loop-outcome.invariant.1.1 in
    let one = c.in_ok-some.ensures.carried in
    let left = into_iter_items c.next.new.self in (
      omega (arith, c.loop-outcome.invariant.0, c.in-Some.ensures.steps.1, ap length c.in-Some.ensures.steps.0),
      (
        rw c.in_ok-append.ensures.ok (IsCarrying-step p (outcome_carried_out p) c.args.heap.now c.loop-outcome.heap c.args.callers.now c.loop-outcome.callers c.args.outcomes.items.items c.in-Some.outcome left c.loop-outcome.made.items.items k c.one_carried_out.new.heap c.one_carried_out.new.callers c.in_ok-some.some.items.items c.in_ok-some.ensures.extends one),
        (
          AreThere-grown p c.in_ok-some.ensures.extends one.keeps c.loop-outcome.heap c.one_carried_out.new.heap k.is_heap one.grows left t.0.1,
          AreAtCalls-later c.args.site.now c.in_ok-some.ensures.extends c.loop-outcome.heap c.loop-outcome.callers left t.0.1 t.1.1,
        ),
      ),
    )

pub returns-in_err-append-clause-extends : goal.returns-in_err-append-clause-extends
returns-in_err-append-clause-extends g c = Extends-trans c.loop-outcome.invariant.1.0.extends c.in_ok-some.ensures.extends

pub returns-clause-extends : goal.returns-clause-extends
returns-clause-extends g c = c.loop-outcome.invariant.1.0.extends

pub returns-clause-carried : goal.returns-clause-carried
returns-clause-carried g c =
    let p = c.args.site.now.program.now in
    let left = into_iter_items c.loop-outcome.outcome-iterator in
    IsCarrying-end p (outcome_carried_out p) c.args.heap.now c.loop-outcome.heap c.args.callers.now c.loop-outcome.callers c.args.outcomes.items.items left c.loop-outcome.made.items.items (nothing_left left _ c.loop-outcome.invariant.0 c.in-None.ensures.steps.0) c.loop-outcome.invariant.1.0

pub returns-then-are_done-clause-carried : goal.returns-then-are_done-clause-carried
returns-then-are_done-clause-carried g c =
    let p = c.args.site.now.program.now in
    let items = c.args.outcomes.items.items in
    AreCarriedOut-whole p (outcome_carried_out p) (g.S.Space.sets c.args.space.now) c.args.heap.now c.args.callers.now items c.requires.may.is_heap c.requires.may.is_for (ArePlain-placed (outcome_carried_out p) items (IsPlain-carried p) (sym c.are_done.ensures ∙ c.if-are_done.true))
