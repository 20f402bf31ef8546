use Rattle.std.proofs.Common.{◌≡◌, ◌<◌, sym, subst, true, length}
use Rattle.vx_space.proofs.Spaces.{Extends-trans}
use Rattle.vx_agree.proofs.Places.{place_below, place_known}
use Rattle.vx_agree.proofs.Taken.{IsTaking-none, IsTaking-step, TakesAll-of}
use Rattle.vx_agree.proofs.taking.take_from_piece.Goals as goal

pub take_part-requires-clause-entry : goal.take_part-requires-clause-entry
take_part-requires-clause-entry g c = c.loop-entry.invariant.extends.known _ (subst (λ r. (g.S.Space.sets c.args.space.now).is_known r.condition ≡ true) (sym c.entry-item.is) (place_known (g.S.Space.sets c.args.space.now) c.args.entries.now c.loop-entry.entry-index c.entry-item.result c.loop-entry-test.true c.requires.entries))

pub returns-in_err-take_part-clause-extends : goal.returns-in_err-take_part-clause-extends
returns-in_err-take_part-clause-extends g c = Extends-trans c.loop-entry.invariant.extends c.take_part.ensures.extends

pub loop-entry-preserved : goal.loop-entry-preserved
loop-entry-preserved g c = IsTaking-step c.args.index c.args.piece.now c.args.set c.args.byte c.args.front.now c.args.entries.now c.loop-entry.entry-index c.entry-item.result c.args.new.now.items c.loop-entry.new.items _ c.loop-entry.waiting.items _ c.loop-entry-test.true c.entry-item.is (subst (λ r. (g.S.Space.sets c.args.space.now).is_known r.condition ≡ true) (sym c.entry-item.is) (place_known (g.S.Space.sets c.args.space.now) c.args.entries.now c.loop-entry.entry-index c.entry-item.result c.loop-entry-test.true c.requires.entries)) c.requires.set c.take_part.ensures.extends c.loop-entry.invariant c.in_ok-take_part.ensures.takes (λ h. subst (λ r. r.byte < length c.args.front.now.text) (sym c.entry-item.is) (place_below (length c.args.front.now.text) c.args.entries.now c.loop-entry.entry-index c.entry-item.result c.loop-entry-test.true h))

pub returns-clause-takes : goal.returns-clause-takes
returns-clause-takes g c = TakesAll-of c.args.index c.args.piece.now c.args.set c.args.byte c.args.front.now c.args.entries.now c.loop-entry.entry-index c.args.new.now.items _ _ c.loop-entry-test.false c.loop-entry.invariant

pub loop-entry-init : goal.loop-entry-init
loop-entry-init g c = rw c.new-waiting.ensures.items (IsTaking-none (g.S.Space.sets c.args.space.now) c.args.index c.args.piece.now c.args.set c.args.byte c.args.front.now c.args.entries.now c.args.new.now.items c.requires.places)

pub returns-clause-extends : goal.returns-clause-extends
returns-clause-extends g c = c.loop-entry.invariant.extends

pub take_part-requires-clause-set : goal.take_part-requires-clause-set
take_part-requires-clause-set g c = c.loop-entry.invariant.extends.known _ c.requires.set

pub take_part-requires-clause-places : goal.take_part-requires-clause-places
take_part-requires-clause-places g c = c.loop-entry.invariant.known

pub take_part-requires-clause-waiting : goal.take_part-requires-clause-waiting
take_part-requires-clause-waiting g c = c.loop-entry.invariant.known_waiting
