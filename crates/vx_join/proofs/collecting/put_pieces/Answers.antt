use Rattle.std.proofs.Common.{take}
use Rattle.vx_bdd_tools.proofs.ListedSets.{AreSetsOf-extends}
use Rattle.vx_space.proofs.Spaces.{Extends-trans}
use Rattle.vx_join.proofs.Firsts.{take_more, take_whole}
use Rattle.vx_join.proofs.Texts.{IsTelling-start, IsTelling-step}
use Rattle.vx_join.proofs.collecting.put_pieces.Goals as goal

pub loop-piece-init : goal.loop-piece-init
loop-piece-init g c = IsTelling-start (g.S.Space.sets c.args.space.now) c.args.scope c.args.report.now.nodes c.args.found.now.items

pub and-requires-clause-first : goal.and-requires-clause-first
and-requires-clause-first g c = c.loop-piece.invariant.extends.known _ c.requires.scope

pub and-requires-clause-second : goal.and-requires-clause-second
and-requires-clause-second g c = (c.set_of-set.ensures c.args.report.now.nodes (AreSetsOf-extends c.loop-piece.invariant.extends c.args.report.now.nodes c.args.sets.now c.requires.sets)).known

pub put_piece-requires : goal.put_piece-requires
put_piece-requires g c = c.in_ok-condition.ensures.ok.known

pub loop-piece-preserved : goal.loop-piece-preserved
loop-piece-preserved g c =
    let r = c.args.report.now in
    let i = c.loop-piece.piece-index in
    IsTelling-step c.args.scope c.set_of-set.result c.in_ok-condition.condition r.nodes c.args.found.now.items c.loop-piece.found.items c.put_piece.new.found.items (take i r.pieces) _ c.piece-item.result
    (take_more c.as_slice-piece-items.result.now r.pieces i c.piece-item.result c.as_slice-piece-items.ensures c.loop-piece-test.true c.piece-item.is) c.requires.scope c.loop-piece.invariant
    c.in_ok-condition.ensures.extends (c.set_of-set.ensures r.nodes (AreSetsOf-extends c.loop-piece.invariant.extends r.nodes c.args.sets.now c.requires.sets)) c.in_ok-condition.ensures.ok c.in_ok-put_piece.ensures

pub returns-clause-extends : goal.returns-clause-extends
returns-clause-extends g c = c.loop-piece.invariant.extends

pub returns-clause-found : goal.returns-clause-found
returns-clause-found g c = rw (take_whole c.as_slice-piece-items.result.now c.args.report.now.pieces c.loop-piece.piece-index c.as_slice-piece-items.ensures c.loop-piece-test.false) at c.loop-piece.invariant.are
