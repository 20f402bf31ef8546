use Rattle.vx_space.proofs.Spaces.{Extends-trans}
use Rattle.vx_agree.proofs.Outputs.{AreBehind-of, IsFollowing-start, IsFollowing-step}
use Rattle.vx_bdd_tools.proofs.ListedSets.{AreSetsOf-extends}
use Rattle.vx_agree.proofs.output.places_behind.Goals as goal

pub loop-piece-init : goal.loop-piece-init
loop-piece-init g c = IsFollowing-start (g.S.Space.sets c.args.space.now) c.args.one.now c.args.other.now c.args.start _ c.requires.start (rw (c.in_ok-push.ensures.items, c.new-reached.ensures.items))

pub moved-requires-clause-one : goal.moved-requires-clause-one
moved-requires-clause-one g c = AreSetsOf-extends c.loop-piece.invariant.extends _ _ c.requires.one

pub moved-requires-clause-sets : goal.moved-requires-clause-sets
moved-requires-clause-sets g c = AreSetsOf-extends c.loop-piece.invariant.extends _ _ c.requires.sets

pub moved-requires-clause-places : goal.moved-requires-clause-places
moved-requires-clause-places g c = c.loop-piece.invariant.known

pub returns-in_err-reached-clause-extends : goal.returns-in_err-reached-clause-extends
returns-in_err-reached-clause-extends g c = Extends-trans c.loop-piece.invariant.extends c.moved.ensures.extends

pub loop-piece-preserved : goal.loop-piece-preserved
loop-piece-preserved g c = IsFollowing-step c.args.one.now c.args.other.now c.args.start c.loop-piece.piece-index c.piece-item.result c.loop-piece.reached.items _ (rw c.as_slice-piece-items.ensures at c.loop-piece-test.true) (rw c.as_slice-piece-items.ensures at c.piece-item.is) c.moved.ensures.extends c.loop-piece.invariant c.in_ok-reached.ensures.moved

pub returns-clause-extends : goal.returns-clause-extends
returns-clause-extends g c = c.loop-piece.invariant.extends

pub returns-clause-behind : goal.returns-clause-behind
returns-clause-behind g c = AreBehind-of c.args.one.now c.args.other.now c.args.start c.loop-piece.piece-index _ (rw c.as_slice-piece-items.ensures at c.loop-piece-test.false) c.loop-piece.invariant
