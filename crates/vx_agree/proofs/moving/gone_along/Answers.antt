use Rattle.std.proofs.Common.{◌∙◌, ap, arith, subst, sym, length, drop}
use Rattle.std.proofs.lemmas.List.{length-drop}
use Rattle.vx_space.specs.Sets.{IsSet}
use Rattle.vx_space.proofs.Spaces.{Extends-trans}
use Rattle.vx_bdd_tools.specs.Nodes.{holds}
use Rattle.vx_agree.proofs.Equal.{common_from-within}
use Rattle.vx_agree.proofs.Moved.{GoesAlong-of, IsGoingAlong-next, IsGoingAlong-start}
use Rattle.vx_agree.proofs.Places.{one_item}
use Rattle.vx_bdd_tools.proofs.ListedSets.{AreSetsOf-extends}
use Rattle.vx_agree.proofs.moving.gone_along.Goals as goal

pub loop-index-init : goal.loop-index-init
loop-index-init g c = IsGoingAlong-start (g.S.Space.sets c.args.space.now) c.args.other.now c.args.entry c.args.front.now c.args.set

pub hold_the_same-requires-clause-condition : goal.hold_the_same-requires-clause-condition
hold_the_same-requires-clause-condition g c = c.loop-index.invariant.extends.known _ c.requires.entry

pub hold_the_same-requires-clause-one : goal.hold_the_same-requires-clause-one
hold_the_same-requires-clause-one g c = c.loop-index.invariant.extends.known _ c.requires.set

pub hold_the_same-requires-clause-other : goal.hold_the_same-requires-clause-other
hold_the_same-requires-clause-other g c = (c.set_of-there.ensures c.args.other.now.nodes (AreSetsOf-extends c.loop-index.invariant.extends c.args.other.now.nodes c.args.sets.now c.requires.sets)).known

pub returns-in_err-hold_the_same-clause-extends : goal.returns-in_err-hold_the_same-clause-extends
returns-in_err-hold_the_same-clause-extends g c = Extends-trans c.loop-index.invariant.extends c.hold_the_same.ensures.extends

pub returns-then-not-branch-clause-extends : goal.returns-then-not-branch-clause-extends
returns-then-not-branch-clause-extends g c = Extends-trans c.loop-index.invariant.extends c.hold_the_same.ensures.extends

pub overflow_add-taken : goal.overflow_add-taken
overflow_add-taken g c =
    let n = common_from-within c.args.front.now c.loop-index.taken c.index-pieces-index-in-loop-index.result c.loop-index.from in
    let d = length-drop c.loop-index.taken c.args.front.now.text in
    let e = c.common_from-same.ensures in
    let w = c.loop-index.invariant.within in
    let b = c.bytes-text.ensures in
    omega (arith, n.0, d, e, w, ap length b)

pub place_behind-requires-clause-count : goal.place_behind-requires-clause-count
place_behind-requires-clause-count g c =
    let l = rw c.as_slice-pieces.ensures at c.loop-index-test.true in
    let same = one_item c.args.other.now.pieces c.loop-index.index c.index-pieces-index-in-loop-index.result c.index-pieces-index-then-taken-text.result l (rw c.as_slice-pieces.ensures at c.index-pieces-index-in-loop-index.is) (rw c.as_slice-pieces.ensures at c.index-pieces-index-then-taken-text.is) in
    let n = common_from-within c.args.front.now c.loop-index.taken c.index-pieces-index-in-loop-index.result c.loop-index.from in
    let size = ap (λ x. length (drop c.loop-index.from x.text)) same in
    omega (arith, n.1, c.common_from-same.ensures, size)

pub returns-then-taken-text-clause-extends : goal.returns-then-taken-text-clause-extends
returns-then-taken-text-clause-extends g c = Extends-trans c.loop-index.invariant.extends c.hold_the_same.ensures.extends

pub returns-then-taken-text-clause-along : goal.returns-then-taken-text-clause-along
returns-then-taken-text-clause-along g c =
    let other = c.args.other.now in
    let s = g.S.Space.sets c.loop-index.space in
    let there = c.index-pieces-index-in-loop-index.result in
    let l = rw c.as_slice-pieces.ensures at c.loop-index-test.true in
    let is = rw c.as_slice-pieces.ensures at c.index-pieces-index-in-loop-index.is in
    let first = one_item other.pieces c.loop-index.index c.index-pieces-index.result there l (rw c.as_slice-pieces.ensures at c.index-pieces-index.is) is in
    let last = one_item other.pieces c.loop-index.index c.index-pieces-index-then-taken-text.result there l (rw c.as_slice-pieces.ensures at c.index-pieces-index-then-taken-text.is) is in
    let set = subst (λ x. IsSet s c.set_of-there.result (holds other.nodes x.node)) (sym c.index-pieces-index.is ∙ first) (c.set_of-there.ensures other.nodes (AreSetsOf-extends c.loop-index.invariant.extends other.nodes c.args.sets.now c.requires.sets)) in
    let behind = rw (last, c.common_from-same.ensures) at c.place_behind.ensures in
    GoesAlong-of other c.args.entry c.args.front.now c.args.set c.loop-index.index c.loop-index.from c.loop-index.taken there c.set_of-there.result c.place_behind.result.0 c.place_behind.result.1 l is c.requires.entry c.requires.set set (c.in_ok-hold_the_same.ensures.same c.if-not-branch.false) (rw (c.common_from-same.ensures, c.bytes-text.ensures) at c.if-taken-text.true) behind c.loop-index.invariant

pub returns-then-same-behind-clause-extends : goal.returns-then-same-behind-clause-extends
returns-then-same-behind-clause-extends g c = Extends-trans c.loop-index.invariant.extends c.hold_the_same.ensures.extends

pub loop-index-preserved : goal.loop-index-preserved
loop-index-preserved g c =
    let other = c.args.other.now in
    let s = g.S.Space.sets c.loop-index.space in
    let there = c.index-pieces-index-in-loop-index.result in
    let l = rw c.as_slice-pieces.ensures at c.loop-index-test.true in
    let is = rw c.as_slice-pieces.ensures at c.index-pieces-index-in-loop-index.is in
    let first = one_item other.pieces c.loop-index.index c.index-pieces-index.result there l (rw c.as_slice-pieces.ensures at c.index-pieces-index.is) is in
    let last = one_item other.pieces c.loop-index.index c.index-pieces-index-in-loop-index-2.result there l (rw c.as_slice-pieces.ensures at c.index-pieces-index-in-loop-index-2.is) is in
    let set = subst (λ x. IsSet s c.set_of-there.result (holds other.nodes x.node)) (sym c.index-pieces-index.is ∙ first) (c.set_of-there.ensures other.nodes (AreSetsOf-extends c.loop-index.invariant.extends other.nodes c.args.sets.now c.requires.sets)) in
    let same = c.common_from-same.ensures in
    let left = ap length (c.behind.ensures ∙ ap (drop c.loop-index.from) c.bytes.ensures) ∙ ap (λ x. length (drop c.loop-index.from x.text)) (sym c.index-pieces-index-in-loop-index-2.is ∙ last) in
    let done = sym same ∙ c.if-same-behind.false ∙ left in
    rw same (IsGoingAlong-next other c.args.entry c.args.front.now c.args.set c.loop-index.index c.loop-index.from c.loop-index.taken there c.set_of-there.result l is c.requires.entry c.requires.set set (c.in_ok-hold_the_same.ensures.same c.if-not-branch.false) c.hold_the_same.ensures.extends done c.loop-index.invariant)

pub returns-clause-extends : goal.returns-clause-extends
returns-clause-extends g c = c.loop-index.invariant.extends
