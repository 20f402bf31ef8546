use Rattle.std.proofs.Common.{◌≡◌, sym, subst, true}
use Rattle.vx_space.proofs.Spaces.{Extends-trans}
use Rattle.vx_agree.proofs.Moved.{AreMoved-of, IsMoving-none, IsMoving-step}
use Rattle.vx_agree.proofs.Places.{place_known}
use Rattle.vx_bdd_tools.proofs.ListedSets.{AreSetsOf-extends}
use Rattle.vx_agree.proofs.moving.move_all.Goals as goal

pub move_entry-requires-clause-entry : goal.move_entry-requires-clause-entry
move_entry-requires-clause-entry g c = c.loop-entry.invariant.extends.known _ (subst (λ r. (g.S.Space.sets c.args.space.now).is_known r.condition ≡ true) (sym c.entry-item.is) (place_known (g.S.Space.sets c.args.space.now) c.args.reached.now c.loop-entry.entry-index c.entry-item.result c.loop-entry-test.true c.requires.places))

pub returns-in_err-move_entry-clause-extends : goal.returns-in_err-move_entry-clause-extends
returns-in_err-move_entry-clause-extends g c = Extends-trans c.loop-entry.invariant.extends c.move_entry.ensures.extends

pub loop-entry-preserved : goal.loop-entry-preserved
loop-entry-preserved g c = IsMoving-step c.args.other.now c.args.front.now c.args.set c.args.reached.now c.loop-entry.entry-index c.entry-item.result c.loop-entry.new.items _ c.loop-entry-test.true c.entry-item.is (subst (λ r. (g.S.Space.sets c.args.space.now).is_known r.condition ≡ true) (sym c.entry-item.is) (place_known (g.S.Space.sets c.args.space.now) c.args.reached.now c.loop-entry.entry-index c.entry-item.result c.loop-entry-test.true c.requires.places)) c.requires.set c.move_entry.ensures.extends c.loop-entry.invariant c.in_ok-move_entry.ensures.moved

pub returns-clause-moved : goal.returns-clause-moved
returns-clause-moved g c = AreMoved-of c.args.other.now c.args.front.now c.args.set c.args.reached.now c.loop-entry.entry-index _ c.loop-entry-test.false c.loop-entry.invariant

pub loop-entry-init : goal.loop-entry-init
loop-entry-init g c = rw c.new-new.ensures.items (IsMoving-none (g.S.Space.sets c.args.space.now) c.args.other.now c.args.front.now c.args.set c.args.reached.now)

pub move_entry-requires-clause-sets : goal.move_entry-requires-clause-sets
move_entry-requires-clause-sets g c = AreSetsOf-extends c.loop-entry.invariant.extends _ _ c.requires.sets

pub returns-clause-extends : goal.returns-clause-extends
returns-clause-extends g c = c.loop-entry.invariant.extends

pub move_entry-requires-clause-set : goal.move_entry-requires-clause-set
move_entry-requires-clause-set g c = c.loop-entry.invariant.extends.known _ c.requires.set

pub move_entry-requires-clause-places : goal.move_entry-requires-clause-places
move_entry-requires-clause-places g c = c.loop-entry.invariant.known
