use Rattle.std.proofs.Common.{arith}
use Rattle.vx_bdd_tools.proofs.ListedSets.{AreSetsOf-extends}
use Rattle.vx_cover.proofs.Listing.{AreFirstEnds-all, IsListingEnds-start, IsListingEnds-step}
use Rattle.vx_cover.proofs.scope.first_ends.Goals as goal

pub loop-line-init : goal.loop-line-init
loop-line-init g c = rw (c.always-rest.ensures, c.new-firsts.ensures.items) (IsListingEnds-start (g.met.S.Space.lawful c.args.space.now) c.args.report.now)

pub and-requires-clause-first : goal.and-requires-clause-first
and-requires-clause-first g c = c.loop-line.invariant.rest_is.known

pub and-requires-clause-second : goal.and-requires-clause-second
and-requires-clause-second g c = (c.set_of-set.ensures c.args.report.now.nodes (AreSetsOf-extends c.loop-line.invariant.extends c.args.report.now.nodes c.args.sets.now c.requires)).known

pub minus-requires-clause-first : goal.minus-requires-clause-first
minus-requires-clause-first g c = c.in_ok-part.ensures.extends.known _ c.loop-line.invariant.rest_is.known

pub minus-requires-clause-second : goal.minus-requires-clause-second
minus-requires-clause-second g c = c.in_ok-part.ensures.extends.known _ (c.set_of-set.ensures c.args.report.now.nodes (AreSetsOf-extends c.loop-line.invariant.extends c.args.report.now.nodes c.args.sets.now c.requires)).known

pub loop-line-preserved : goal.loop-line-preserved
loop-line-preserved g c = IsListingEnds-step c.args.report.now _ c.loop-line.line-index c.line-item.result c.loop-line.rest c.set_of-set.result c.in_ok-part.part c.in_ok-rest.rest c.loop-line.firsts.items _ c.as_slice-line-items.ensures c.loop-line-test.true c.line-item.is c.loop-line.invariant c.in_ok-part.ensures.extends c.in_ok-rest.ensures.extends (c.set_of-set.ensures c.args.report.now.nodes (AreSetsOf-extends c.loop-line.invariant.extends c.args.report.now.nodes c.args.sets.now c.requires)) c.in_ok-part.ensures.ok c.in_ok-push.ensures.items c.in_ok-rest.ensures.ok

pub returns-clause-extends : goal.returns-clause-extends
returns-clause-extends g c = c.loop-line.invariant.extends

pub returns-clause-ends : goal.returns-clause-ends
returns-clause-ends g c = AreFirstEnds-all c.args.report.now _ c.loop-line.line-index c.loop-line.rest c.loop-line.firsts.items c.as_slice-line-items.ensures (omega arith) c.loop-line-test.false c.loop-line.invariant
