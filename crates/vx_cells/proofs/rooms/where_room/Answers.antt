use Rattle.std.proofs.Common.{◌+◌, ◌-◌, ◌≤◌, length}
use Rattle.std.specs.Ordering.{bool_cmp}
use Rattle.vx_space.proofs.Spaces.{Extends-trans}
use Rattle.vx_value.specs.Slot.{slot_cmp}
use Rattle.vx_cond.proofs.CondLaws.{IsCond-of}
use Rattle.vx_cond.proofs.SideLaws.{IsRow-scope_known}
use Rattle.vx_group_states.proofs.SettleLaws.{lifting_cond}
use Rattle.vx_cells.proofs.Lowest.{fit_there, surely_there}
use Rattle.vx_cells.proofs.rooms.where_room.Goals as goal

pub one-requires : goal.one-requires
one-requires g c = rw c.scope.ensures (IsRow-scope_known slot_cmp _ c.args.stack.now c.requires.row)

pub returns-then-surely_fit-clause-cond : goal.returns-then-surely_fit-clause-cond
returns-then-surely_fit-clause-cond g c = IsCond-of bool_cmp _ _ c.in_ok-yes.yes c.in_ok-yes.ensures.ok

pub returns-then-surely_fit-clause-at : goal.returns-then-surely_fit-clause-at
returns-then-surely_fit-clause-at g c =
    let few : c.args.value + ((length c.args.stack.now.conds - c.args.taken) + (length c.args.stack.now.conds - c.args.taken)) ≤ c.args.room = rw (← c.len.ensures) (c.surely_fit.ensures c.if-surely_fit.true) in
    surely_there _ c.args.stack.now c.args.value c.args.taken c.args.room c.in_ok-yes.yes few (rw c.scope.ensures at c.in_ok-yes.ensures.ok)

pub returns-clause-extends : goal.returns-clause-extends
returns-clause-extends g c = Extends-trans c.in_ok-sizes.ensures.extends c.in_ok-fits.ensures.extends

pub returns-clause-cond : goal.returns-clause-cond
returns-clause-cond g c = lifting_cond bool_cmp _ _ _ c.in_ok-fits.fits c.in_ok-fits.ensures.ok

pub returns-clause-at : goal.returns-clause-at
returns-clause-at g c = fit_there (g.S.Space.sets c.args.space.now) (g.S.Space.sets c.sizes.new.space) (g.S.Space.sets c.map.new.space) c.args.stack.now c.args.value c.args.taken c.args.room c.in_ok-sizes.sizes c.in_ok-fits.fits _ (λ n b h. rw c.from-words.ensures at h) c.requires.taken (rw c.len.ensures at c.in_ok-sizes.ensures.at) c.in_ok-fits.ensures.ok
