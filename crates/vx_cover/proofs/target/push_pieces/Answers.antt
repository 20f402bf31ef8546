use Rattle.std.proofs.Common.{◌≡◌, ◌+◌, ap, arith, length, subst}
use Rattle.vx_cover.specs.Covers.{has_this_piece}
use Rattle.vx_cover.specs.Targets.{AreFirst}
use Rattle.vx_bdd_tools.proofs.ListedSets.{AreSetsOf-extends}
use Rattle.vx_cover.proofs.Listing.{IsListingPieces-start, IsListingPieces-step}
use Rattle.vx_cover.proofs.target.push_pieces.Goals as goal

pub loop-place-init : goal.loop-place-init
loop-place-init g c = IsListingPieces-start c.args.report.now c.args.ended c.args.targets.now.items c.requires.ended c.requires.none

pub and-requires-clause-second : goal.and-requires-clause-second
and-requires-clause-second g c = (c.set_of-set.ensures c.args.report.now.nodes (AreSetsOf-extends c.loop-place.invariant.extends c.args.report.now.nodes c.args.sets.now c.requires.sets)).known

pub loop-place-preserved : goal.loop-place-preserved
loop-place-preserved g c = IsListingPieces-step (g.met.S.Space.lawful c.and.new.self) c.args.report.now _ c.loop-place.place (c.loop-place.place + 1) c.piece-item.result c.args.ended c.set_of-set.result c.in_ok-part.part c.loop-place.targets.items _ (omega arith) c.as_slice-piece-items.ensures c.loop-place-test.true c.piece-item.is c.loop-place.invariant c.in_ok-part.ensures.extends (c.set_of-set.ensures c.args.report.now.nodes (AreSetsOf-extends c.loop-place.invariant.extends c.args.report.now.nodes c.args.sets.now c.requires.sets)) c.in_ok-part.ensures.ok c.in_ok-push_target.ensures

pub returns-clause-targets : goal.returns-clause-targets
returns-clause-targets g c =
    let all : c.loop-place.place ≡ length c.args.report.now.pieces = omega (arith, c.loop-place.auto.place-end, c.loop-place-test.false, ap length c.as_slice-piece-items.ensures) in
    subst (λ n. AreFirst (g.S.Space.sets c.loop-place.space) (has_this_piece c.args.report.now) n c.loop-place.targets.items) all c.loop-place.invariant.targets
