use Rattle.std.proofs.Common.{◌∙◌, ap, get_or, sym, subst}
use Rattle.vx_value.specs.Ends.{compare_ends}
use Rattle.vx_space.specs.Sets.{IsSet}
use Rattle.vx_bdd_tools.specs.Nodes.{holds}
use Rattle.vx_agree.proofs.Merging.{IsMerging-both, IsMerging-one, IsMerging-other, IsMerging-start}
use Rattle.vx_agree.proofs.Places.{one_item}
use Rattle.vx_bdd_tools.proofs.ListedSets.{AreSetsOf-extends}
use Rattle.vx_agree.proofs.ends.same_end.Goals as goal

pub loop-place-preserved-in-Less : goal.loop-place-preserved-in-Less
loop-place-preserved-in-Less g c =
    let one = c.args.one.now in
    let other = c.args.other.now in
    let s = g.S.Space.sets c.loop-place.space in
    let line = c.index-ends-place-in-loop-place.result in
    let other_line = c.index-other_ends-other_place-in-loop-place.result in
    let l = rw c.as_slice-ends.ensures at c.loop-place-test.true in
    let m = rw c.as_slice-other_ends.ensures at c.if-other_place-other_ends.true in
    let is = rw c.as_slice-ends.ensures at c.index-ends-place-in-loop-place.is in
    let other_is = rw c.as_slice-other_ends.ensures at c.index-other_ends-other_place-in-loop-place.is in
    let same = one_item one.ends c.loop-place.place c.index-ends-place.result line l (rw c.as_slice-ends.ensures at c.index-ends-place.is) is in
    let set = subst (λ x. IsSet s c.set_of-set.result (holds one.nodes x.node)) (sym c.index-ends-place.is ∙ same) (c.set_of-set.ensures one.nodes (AreSetsOf-extends c.loop-place.invariant.extends one.nodes c.args.one_sets.now c.requires.one)) in
    IsMerging-one one other c.loop-place.place c.loop-place.other_place line other_line c.set_of-set.result c.loop-place.endings c.in_ok-endings-in-Less.endings l m is other_is c.requires.other_ends set (ap (λ x. compare_ends x.end other_line.end) c.index-ends-place-in-loop-place.is ∙ ap (λ y. compare_ends (get_or c.as_slice-ends.result.now c.loop-place.place line).end y.end) c.index-other_ends-other_place-in-loop-place.is ∙ sym c.in-Less.ensures) c.past_one.ensures.extends c.loop-place.invariant c.in_ok-endings-in-Less.ensures.ok

pub loop-place-preserved-in-Greater : goal.loop-place-preserved-in-Greater
loop-place-preserved-in-Greater g c =
    let one = c.args.one.now in
    let other = c.args.other.now in
    let s = g.S.Space.sets c.loop-place.space in
    let line = c.index-ends-place-in-loop-place.result in
    let other_line = c.index-other_ends-other_place-in-loop-place.result in
    let l = rw c.as_slice-ends.ensures at c.loop-place-test.true in
    let m = rw c.as_slice-other_ends.ensures at c.if-other_place-other_ends.true in
    let is = rw c.as_slice-ends.ensures at c.index-ends-place-in-loop-place.is in
    let other_is = rw c.as_slice-other_ends.ensures at c.index-other_ends-other_place-in-loop-place.is in
    let same = one_item other.ends c.loop-place.other_place c.index-other_ends-other_place.result other_line m (rw c.as_slice-other_ends.ensures at c.index-other_ends-other_place.is) other_is in
    let set = subst (λ x. IsSet s c.set_of-other_set.result (holds other.nodes x.node)) (sym c.index-other_ends-other_place.is ∙ same) (c.set_of-other_set.ensures other.nodes (AreSetsOf-extends c.loop-place.invariant.extends other.nodes c.args.sets.now c.requires.sets)) in
    IsMerging-other one other c.loop-place.place c.loop-place.other_place line other_line c.set_of-other_set.result c.loop-place.endings c.in_ok-endings-in-Greater.endings l m is other_is c.requires.ends set (ap (λ x. compare_ends x.end other_line.end) c.index-ends-place-in-loop-place.is ∙ ap (λ y. compare_ends (get_or c.as_slice-ends.result.now c.loop-place.place line).end y.end) c.index-other_ends-other_place-in-loop-place.is ∙ sym c.in-Greater.ensures) c.past_other.ensures.extends c.loop-place.invariant c.in_ok-endings-in-Greater.ensures.ok

pub loop-place-preserved : goal.loop-place-preserved
loop-place-preserved g c =
    let one = c.args.one.now in
    let other = c.args.other.now in
    let s = g.S.Space.sets c.loop-place.space in
    let line = c.index-ends-place-in-loop-place.result in
    let other_line = c.index-other_ends-other_place-in-loop-place.result in
    let l = rw c.as_slice-ends.ensures at c.loop-place-test.true in
    let m = rw c.as_slice-other_ends.ensures at c.if-other_place-other_ends.true in
    let is = rw c.as_slice-ends.ensures at c.index-ends-place-in-loop-place.is in
    let other_is = rw c.as_slice-other_ends.ensures at c.index-other_ends-other_place-in-loop-place.is in
    let same = one_item one.ends c.loop-place.place c.index-ends-place.result line l (rw c.as_slice-ends.ensures at c.index-ends-place.is) is in
    let other_same = one_item other.ends c.loop-place.other_place c.index-other_ends-other_place.result other_line m (rw c.as_slice-other_ends.ensures at c.index-other_ends-other_place.is) other_is in
    let set = subst (λ x. IsSet s c.set_of-set.result (holds one.nodes x.node)) (sym c.index-ends-place.is ∙ same) (c.set_of-set.ensures one.nodes (AreSetsOf-extends c.loop-place.invariant.extends one.nodes c.args.one_sets.now c.requires.one)) in
    let other_set = subst (λ x. IsSet s c.set_of-other_set.result (holds other.nodes x.node)) (sym c.index-other_ends-other_place.is ∙ other_same) (c.set_of-other_set.ensures other.nodes (AreSetsOf-extends c.loop-place.invariant.extends other.nodes c.args.sets.now c.requires.sets)) in
    IsMerging-both one other c.loop-place.place c.loop-place.other_place line other_line c.set_of-set.result c.set_of-other_set.result c.loop-place.endings c.in_ok-endings-in-Equal.endings l m is other_is c.requires.ends c.requires.other_ends set other_set (ap (λ x. compare_ends x.end other_line.end) c.index-ends-place-in-loop-place.is ∙ ap (λ y. compare_ends (get_or c.as_slice-ends.result.now c.loop-place.place line).end y.end) c.index-other_ends-other_place-in-loop-place.is ∙ sym c.in-Equal.ensures) c.past_both.ensures.extends c.loop-place.invariant c.in_ok-endings-in-Equal.ensures.ok

pub loop-place-init : goal.loop-place-init
loop-place-init g c = rw (c.never.ensures, c.always.ensures, c.always-2.ensures) (IsMerging-start (g.met.S.Space.lawful c.args.space.now) c.args.one.now c.args.other.now)

pub past_one-requires-clause-found : goal.past_one-requires-clause-found
past_one-requires-clause-found g c = c.loop-place.invariant.found

pub past_one-requires-clause-one : goal.past_one-requires-clause-one
past_one-requires-clause-one g c = c.loop-place.invariant.one_known

pub past_one-requires-clause-other : goal.past_one-requires-clause-other
past_one-requires-clause-other g c = c.loop-place.invariant.other_known

pub past_one-requires-clause-set : goal.past_one-requires-clause-set
past_one-requires-clause-set g c = (c.set_of-set.ensures c.args.one.now.nodes (AreSetsOf-extends c.loop-place.invariant.extends c.args.one.now.nodes c.args.one_sets.now c.requires.one)).known

pub past_other-requires-clause-found : goal.past_other-requires-clause-found
past_other-requires-clause-found g c = c.loop-place.invariant.found

pub past_other-requires-clause-one : goal.past_other-requires-clause-one
past_other-requires-clause-one g c = c.loop-place.invariant.one_known

pub past_other-requires-clause-other : goal.past_other-requires-clause-other
past_other-requires-clause-other g c = c.loop-place.invariant.other_known

pub past_other-requires-clause-set : goal.past_other-requires-clause-set
past_other-requires-clause-set g c = (c.set_of-other_set.ensures c.args.other.now.nodes (AreSetsOf-extends c.loop-place.invariant.extends c.args.other.now.nodes c.args.sets.now c.requires.sets)).known

pub past_both-requires-clause-found : goal.past_both-requires-clause-found
past_both-requires-clause-found g c = c.loop-place.invariant.found

pub past_both-requires-clause-one : goal.past_both-requires-clause-one
past_both-requires-clause-one g c = c.loop-place.invariant.one_known

pub past_both-requires-clause-other : goal.past_both-requires-clause-other
past_both-requires-clause-other g c = c.loop-place.invariant.other_known

pub past_both-requires-clause-set : goal.past_both-requires-clause-set
past_both-requires-clause-set g c = (c.set_of-set.ensures c.args.one.now.nodes (AreSetsOf-extends c.loop-place.invariant.extends c.args.one.now.nodes c.args.one_sets.now c.requires.one)).known

pub past_both-requires-clause-other_set : goal.past_both-requires-clause-other_set
past_both-requires-clause-other_set g c = (c.set_of-other_set.ensures c.args.other.now.nodes (AreSetsOf-extends c.loop-place.invariant.extends c.args.other.now.nodes c.args.sets.now c.requires.sets)).known

pub returns-clause-extends : goal.returns-clause-extends
returns-clause-extends g c = c.loop-place.invariant.extends
