use Rattle.vx_bdd_tools.proofs.ListedSets.{AreSetsOf-extends}
use Rattle.vx_space.proofs.Spaces.{Extends-trans}
use Rattle.vx_cover.proofs.Listing.{IsJoining-all, IsJoining-start, IsJoining-step}
use Rattle.vx_cover.proofs.scope.ended.Goals as goal

pub loop-line-init : goal.loop-line-init
loop-line-init g c = rw c.never-found.ensures (IsJoining-start (g.met.S.Space.lawful c.args.space.now) c.args.report.now.nodes)

pub or-requires-clause-first : goal.or-requires-clause-first
or-requires-clause-first g c = c.loop-line.invariant.found_is.known

pub or-requires-clause-second : goal.or-requires-clause-second
or-requires-clause-second g c = (c.set_of-set.ensures c.args.report.now.nodes (AreSetsOf-extends c.loop-line.invariant.extends c.args.report.now.nodes c.args.sets.now c.requires)).known

pub returns-in_err-found-clause-extends : goal.returns-in_err-found-clause-extends
returns-in_err-found-clause-extends g c = Extends-trans c.loop-line.invariant.extends c.or.ensures.extends

pub loop-line-preserved : goal.loop-line-preserved
loop-line-preserved g c = IsJoining-step (λ line. line.node) c.args.report.now.nodes _ c.args.report.now.ends c.loop-line.line-index c.line-item.result c.loop-line.found c.set_of-set.result c.in_ok-found.found c.as_slice-line-items.ensures c.loop-line-test.true c.line-item.is c.loop-line.invariant c.or.ensures.extends (c.set_of-set.ensures c.args.report.now.nodes (AreSetsOf-extends c.loop-line.invariant.extends c.args.report.now.nodes c.args.sets.now c.requires)) c.in_ok-found.ensures.ok

pub returns-clause-extends : goal.returns-clause-extends
returns-clause-extends g c = c.loop-line.invariant.extends

pub returns-clause-ended : goal.returns-clause-ended
returns-clause-ended g c = IsJoining-all (λ line. line.node) c.args.report.now.nodes _ c.args.report.now.ends c.loop-line.line-index c.loop-line.found c.as_slice-line-items.ensures c.loop-line-test.false c.loop-line.invariant
