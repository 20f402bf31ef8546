use Rattle.std.proofs.Common.{◌∷◌, [], ◌<◌, ◌≤◌, arith, length}
use Rattle.std.proofs.lemmas.List.{length-append}
use Rattle.std.proofs.lemmas.Result.{IfOk-weaker}
use Rattle.vx_group.proofs.GroupLaws.{IsGroup-extends, IsGroup-one_scope}
use Rattle.vx_space.proofs.Spaces.{Extends-trans}
use Rattle.vx_returns.proofs.ReceiveLaws.{IsGroup-pushed, full-receives, received-gives}
use Rattle.vx_returns.proofs.receiving.receive.Goals as goal

pub misfits-requires : goal.misfits-requires
misfits-requires g c = c.requires.group

pub returns-then-len-from-clause-gives : goal.returns-then-len-from-clause-gives
returns-then-len-from-clause-gives g c = λ heap held.
    let full : c.room_of-room.result ≤ length c.args.group.top.stack.conds = rw (← c.top_frame-top.ensures, ← c.len.ensures, ← c.from.ensures) (omega arith) in
    full-receives c.args.program.now _ c.args.group c.args.value c.room_of-room.result c.args.at _ (rw c.top_frame-top.ensures at c.room_of-room.ensures) full c.in_ok-ended.ensures heap

pub with_value-requires-clause-scope : goal.with_value-requires-clause-scope
with_value-requires-clause-scope g c = IsGroup-one_scope _ c.args.group c.requires.group

pub with_value-requires-clause-few : goal.with_value-requires-clause-few
with_value-requires-clause-few g c =
    let few : length c.args.group.top.stack.conds < c.room_of-room.result = rw (← c.top_frame-top.ensures, ← c.len.ensures, ← c.from.ensures) (omega arith) in
    omega (arith, few)

pub where_within-requires-clause-group : goal.where_within-requires-clause-group
where_within-requires-clause-group g c = rw c.in_ok-group.ensures (IsGroup-pushed _ c.args.group c.args.value c.requires.group c.requires.value c.requires.scope)

pub where_within-requires-clause-few : goal.where_within-requires-clause-few
where_within-requires-clause-few g c =
    let few : length c.args.group.top.stack.conds < c.room_of-room.result = rw (← c.top_frame-top.ensures, ← c.len.ensures, ← c.from.ensures) (omega arith) in
    rw c.in_ok-group.ensures (omega (arith, few, length-append c.args.group.top.stack.conds (c.args.value ∷ [])))

pub fitting_parts-requires-clause-group : goal.fitting_parts-requires-clause-group
fitting_parts-requires-clause-group g c = rw c.in_ok-group.ensures (IsGroup-extends c.in_ok-fits.ensures.extends _ (IsGroup-pushed _ c.args.group c.args.value c.requires.group c.requires.value c.requires.scope))

pub fitting_parts-requires-clause-known : goal.fitting_parts-requires-clause-known
fitting_parts-requires-clause-known g c = c.in_ok-fits.ensures.set.known

pub returns-clause-extends : goal.returns-clause-extends
returns-clause-extends g c = Extends-trans c.in_ok-fits.ensures.extends c.fitting_parts.ensures.extends

pub returns-clause-gives : goal.returns-clause-gives
returns-clause-gives g c = IfOk-weaker c.fitting_parts.result _ _ (λ r h heap held. received-gives c.args.program.now c.args.group c.args.value c.room_of-room.result c.in_ok-fits.fits c.args.at r.items.items c.requires.group c.requires.value c.requires.scope (rw c.top_frame-top.ensures at c.room_of-room.ensures) c.in_ok-fits.ensures.extends (rw c.in_ok-group.ensures at c.in_ok-fits.ensures.set) heap held ((rw c.in_ok-group.ensures at h) heap)) c.fitting_parts.ensures.gives
