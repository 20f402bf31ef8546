use Rattle.std.proofs.Common.{◌∙◌, arith, subst, sym}
use Rattle.vx_agree.proofs.Places.{is_zero}
use Rattle.vx_space.specs.Sets.{IsSet}
use Rattle.vx_space.proofs.Spaces.{Extends-trans}
use Rattle.vx_bdd_tools.specs.Nodes.{holds}
use Rattle.vx_agree.proofs.Places.{one_item}
use Rattle.vx_bdd_tools.proofs.ListedSets.{AreSetsOf-extends}
use Rattle.vx_agree.proofs.Taken.{IsGoing-start, IsGoing-step, IsTaken-early, IsTaken-end}
use Rattle.vx_agree.proofs.taking.take_text.Goals as goal

pub loop-index-init : goal.loop-index-init
loop-index-init g c = IsGoing-start (g.S.Space.sets c.args.space.now) c.args.other.now c.args.piece c.args.byte c.args.condition c.args.front.now c.args.new.now.items _ c.requires.some c.requires.places c.in_ok-waiting.ensures

pub returns-then-is_empty-clause-extends : goal.returns-then-is_empty-clause-extends
returns-then-is_empty-clause-extends g c = c.loop-index.invariant.extends

pub returns-then-is_empty-clause-taken : goal.returns-then-is_empty-clause-taken
returns-then-is_empty-clause-taken g c = IsTaken-early c.args.other.now c.args.piece c.args.byte c.args.condition c.args.front.now c.args.new.now.items c.loop-index.index c.loop-index.from _ c.loop-index.waiting.items c.loop-index.invariant (let empty = is_zero c.loop-index.waiting.len (sym c.is_empty.ensures ∙ c.if-is_empty.true) in omega (arith, empty, c.loop-index.waiting.ok))

pub take_from_piece-requires-clause-set : goal.take_from_piece-requires-clause-set
take_from_piece-requires-clause-set g c = (c.set_of-set.ensures c.args.other.now.nodes (AreSetsOf-extends c.loop-index.invariant.extends c.args.other.now.nodes c.args.sets.now c.requires.sets)).known

pub take_from_piece-requires-clause-entries : goal.take_from_piece-requires-clause-entries
take_from_piece-requires-clause-entries g c = rw c.as_slice.ensures.value c.loop-index.invariant.known_waiting

pub take_from_piece-requires-clause-places : goal.take_from_piece-requires-clause-places
take_from_piece-requires-clause-places g c = c.loop-index.invariant.known

pub returns-in_err-waiting-2-clause-extends : goal.returns-in_err-waiting-2-clause-extends
returns-in_err-waiting-2-clause-extends g c = Extends-trans c.loop-index.invariant.extends c.take_from_piece.ensures.extends

pub loop-index-preserved : goal.loop-index-preserved
loop-index-preserved g c =
    let other = c.args.other.now in
    let s = g.S.Space.sets c.loop-index.space in
    let there = c.index-pieces-index-in-loop-index.result in
    let l = rw c.as_slice-pieces.ensures at c.loop-index-test.true in
    let is = rw c.as_slice-pieces.ensures at c.index-pieces-index-in-loop-index.is in
    let first = one_item other.pieces c.loop-index.index c.index-pieces-index.result there l (rw c.as_slice-pieces.ensures at c.index-pieces-index.is) is in
    let set = subst (λ x. IsSet s c.set_of-set.result (holds other.nodes x.node)) (sym c.index-pieces-index.is ∙ first) (c.set_of-set.ensures other.nodes (AreSetsOf-extends c.loop-index.invariant.extends other.nodes c.args.sets.now c.requires.sets)) in
    IsGoing-step other c.args.piece c.args.byte c.args.condition c.args.front.now c.args.new.now.items c.loop-index.index c.loop-index.from there c.set_of-set.result c.loop-index.new.items _ c.loop-index.waiting.items _ l is set c.take_from_piece.ensures.extends c.loop-index.invariant (rw c.as_slice.ensures.value at c.in_ok-waiting-2.ensures.takes)

pub returns-clause-extends : goal.returns-clause-extends
returns-clause-extends g c = c.loop-index.invariant.extends

pub returns-clause-taken : goal.returns-clause-taken
returns-clause-taken g c = IsTaken-end c.args.other.now c.args.piece c.args.byte c.args.condition c.args.front.now c.args.new.now.items c.loop-index.index c.loop-index.from _ c.loop-index.waiting.items (rw c.as_slice-pieces.ensures at c.loop-index-test.false) c.loop-index.invariant
