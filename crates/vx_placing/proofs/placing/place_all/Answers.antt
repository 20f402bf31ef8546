use Rattle.std.proofs.Common.{ap, arith, length, sym, ◌∙◌}
use Rattle.std.proofs.lemmas.List.{nil_from_length}
use Rattle.std.specs.List.{list_all}
use Rattle.std.specs.Ordering.{nat_cmp}
use Rattle.std.specs.Vec.Iter.{into_iter_items}
use Rattle.vx_space.proofs.Spaces.{Extends-trans}
use Rattle.vx_cond.proofs.CondLaws.{IsCond-extends}
use Rattle.vx_heap.proofs.HeapLaws.{IsHeap-extends}
use Rattle.vx_group_states.proofs.StateLaws.{both_first}
use Rattle.vx_standing.specs.Attempted.{is_placed}
use Rattle.vx_placing.proofs.Sequence.{IsPlaceable-later, IsPlacing-end, IsPlacing-start, IsPlacing-step, next_bound, next_unwritten, next_vacant}
use Rattle.vx_placing.proofs.placing.place_all.Goals as goal

pub loop-outcome-init : goal.loop-outcome-init
loop-outcome-init g c =
    let gives = c.into_iter-outcome-iterator.ensures.into_iter_gives in (
      omega (arith, gives.1, ap length gives.0, c.args.outcomes.ok.0),
      rw gives.0 (IsPlacing-start c.args.setting.now.program.now _ c.args.setting.now.heap.now c.args.setting.now.limit c.args.attempts.now c.args.round.now c.args.outcomes.items c.requires.may.underway c.requires.divide c.requires.placeable c.requires.placed),
    )

pub place_outcome-requires-clause-may : goal.place_outcome-requires-clause-may
place_outcome-requires-clause-may g c =
    let k = rw c.in-Some.ensures.steps.0 at c.loop-outcome.invariant.1 in
    record {
      is_heap = IsHeap-extends c.loop-outcome.invariant.1.extends c.args.setting.now.heap.now c.requires.may.is_heap;
      underway = c.loop-outcome.invariant.1.placed.put.underway;
      is_cond = IsCond-extends nat_cmp c.loop-outcome.invariant.1.extends c.args.attempts.now c.requires.may.is_cond;
      bound = next_bound c.loop-outcome.invariant.1.extends c.args.setting.now.limit c.args.attempts.now c.requires.may.is_cond c.requires.may.bound;
      vacant = next_vacant c.args.setting.now.program.now c.args.setting.now.heap.now c.args.setting.now.limit c.args.attempts.now c.args.round.now c.loop-outcome.round c.args.outcomes.items (into_iter_items c.next.new.self) c.in-Some.outcome c.requires.may.vacant k;
      unwritten = next_unwritten c.args.setting.now.program.now c.args.setting.now.heap.now c.args.setting.now.limit c.args.attempts.now c.args.round.now c.loop-outcome.round c.args.outcomes.items (into_iter_items c.next.new.self) c.in-Some.outcome c.requires.may.unwritten k;
    }

pub place_outcome-requires-clause-placeable : goal.place_outcome-requires-clause-placeable
place_outcome-requires-clause-placeable g c =
    let k = rw c.in-Some.ensures.steps.0 at c.loop-outcome.invariant.1 in
    IsPlaceable-later c.args.setting.now.program.now k.extends k.placed.put.keeps c.args.setting.now.heap.now c.requires.may.is_heap c.args.attempts.now c.requires.may.is_cond c.in-Some.outcome k.placeable.0

pub place_outcome-requires-clause-placed : goal.place_outcome-requires-clause-placed
place_outcome-requires-clause-placed g c =
    let k = rw c.in-Some.ensures.steps.0 at c.loop-outcome.invariant.1 in
    both_first (is_placed c.in-Some.outcome) (list_all is_placed (into_iter_items c.next.new.self)) k.are_placed

pub returns-in_err-place_outcome-clause-extends : goal.returns-in_err-place_outcome-clause-extends
returns-in_err-place_outcome-clause-extends g c = Extends-trans c.loop-outcome.invariant.1.extends c.place_outcome.ensures.extends

pub loop-outcome-preserved : goal.loop-outcome-preserved
loop-outcome-preserved g c =
    let k = rw c.in-Some.ensures.steps.0 at c.loop-outcome.invariant.1 in (
      omega (arith, c.loop-outcome.invariant.0, c.in-Some.ensures.steps.1, ap length c.in-Some.ensures.steps.0),
      IsPlacing-step c.args.setting.now.program.now c.args.setting.now.heap.now c.requires.may.is_heap c.args.setting.now.limit c.args.attempts.now c.requires.may.is_cond c.args.round.now c.loop-outcome.round c.place_outcome.new.round c.args.outcomes.items (into_iter_items c.next.new.self) c.in-Some.outcome k c.in_ok-place_outcome.ensures.extends c.in_ok-place_outcome.ensures.placed,
    )

pub returns-clause-extends : goal.returns-clause-extends
returns-clause-extends g c = c.loop-outcome.invariant.1.extends

pub returns-clause-placed : goal.returns-clause-placed
returns-clause-placed g c = IsPlacing-end c.args.setting.now.program.now _ _ c.args.setting.now.heap.now c.args.setting.now.limit c.args.attempts.now c.args.round.now c.loop-outcome.round c.args.outcomes.items (into_iter_items c.loop-outcome.outcome-iterator) (nil_from_length (into_iter_items c.loop-outcome.outcome-iterator) (sym c.loop-outcome.invariant.0 ∙ c.in-None.ensures.steps.0)) c.loop-outcome.invariant.1
