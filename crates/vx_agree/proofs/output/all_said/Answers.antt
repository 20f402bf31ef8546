use Rattle.std.proofs.Common.{◌≡◌, subst, sym, true}
use Rattle.vx_agree.proofs.Outputs.{IsAllSaid-of, IsCollecting-start, IsCollecting-step}
use Rattle.vx_agree.proofs.Places.{place_known}
use Rattle.vx_bdd_tools.proofs.ListedSets.{AreSetsOf-extends}
use Rattle.vx_space.proofs.Spaces.{Extends-trans}
use Rattle.vx_agree.proofs.output.all_said.Goals as goal

pub unsaid-requires-clause-known : goal.unsaid-requires-clause-known
unsaid-requires-clause-known g c = c.loop-entry.invariant.extends.known _ (subst (λ r. (g.S.Space.sets c.args.space.now).is_known r.condition ≡ true) (sym c.entry-item.is) (place_known (g.S.Space.sets c.args.space.now) c.args.reached.now c.loop-entry.entry-index c.entry-item.result c.loop-entry-test.true c.requires.places))

pub loop-entry-preserved : goal.loop-entry-preserved
loop-entry-preserved g c = IsCollecting-step c.args.other.now c.args.reached.now c.loop-entry.entry-index c.entry-item.result c.loop-entry.all c.in_ok-rest.rest c.in_ok-all.all c.loop-entry-test.true c.entry-item.is (subst (λ r. (g.S.Space.sets c.args.space.now).is_known r.condition ≡ true) (sym c.entry-item.is) (place_known (g.S.Space.sets c.args.space.now) c.args.reached.now c.loop-entry.entry-index c.entry-item.result c.loop-entry-test.true c.requires.places)) c.loop-entry.invariant c.in_ok-rest.ensures.extends c.in_ok-all.ensures.extends c.in_ok-rest.ensures.unsaid c.in_ok-all.ensures.ok

pub loop-entry-init : goal.loop-entry-init
loop-entry-init g c = rw c.never-all.ensures (IsCollecting-start (g.met.S.Space.lawful c.args.space.now) c.args.other.now c.args.reached.now)

pub unsaid-requires-clause-sets : goal.unsaid-requires-clause-sets
unsaid-requires-clause-sets g c = AreSetsOf-extends c.loop-entry.invariant.extends _ _ c.requires.sets

pub returns-in_err-rest-clause-extends : goal.returns-in_err-rest-clause-extends
returns-in_err-rest-clause-extends g c = Extends-trans c.loop-entry.invariant.extends c.unsaid.ensures.extends

pub returns-in_err-all-clause-extends : goal.returns-in_err-all-clause-extends
returns-in_err-all-clause-extends g c = Extends-trans c.loop-entry.invariant.extends (Extends-trans c.in_ok-rest.ensures.extends c.or.ensures.extends)

pub returns-clause-extends : goal.returns-clause-extends
returns-clause-extends g c = c.loop-entry.invariant.extends

pub returns-clause-said : goal.returns-clause-said
returns-clause-said g c = IsAllSaid-of c.args.other.now c.args.reached.now c.loop-entry.entry-index c.loop-entry.all c.loop-entry-test.false c.loop-entry.invariant

pub or-requires-clause-first : goal.or-requires-clause-first
or-requires-clause-first g c = c.in_ok-rest.ensures.extends.known _ c.loop-entry.invariant.known
