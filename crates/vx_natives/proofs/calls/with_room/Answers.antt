use Rattle.std.proofs.Common.{◌∙◌, ap, refl, sym}
use Rattle.vx_cond.proofs.CondLaws.{IsCond-extends, cond_at-extends}
use Rattle.vx_families.proofs.Tops.{lifting2_cond, made_of_two, value_there}
use Rattle.vx_families.proofs.Sizes.{width_small}
use Rattle.vx_space.proofs.Spaces.{Extends-trans}
use Rattle.vx_natives.specs.CallOrder.{call_cmp}
use Rattle.vx_natives.specs.Calls.{call_at, call_where}
use Rattle.vx_natives.specs.declared.call.Call.TheVariants.{Illegal}
use Rattle.vx_natives.proofs.calls.with_room.Goals as goal

pub where_room-requires-clause-value : goal.where_room-requires-clause-value
where_room-requires-clause-value g c = rw c.width_of-width.ensures (width_small c.in-Some.java_type)

pub zip-requires-clause-first : goal.zip-requires-clause-first
zip-requires-clause-first g c = IsCond-extends call_cmp c.in_ok-rooms.ensures.extends c.args.calls c.requires.calls

pub zip-requires-clause-scopes : goal.zip-requires-clause-scopes
zip-requires-clause-scopes g c = c.requires.scope ∙ sym c.in_ok-rooms.ensures.scope

pub returns-clause-cond : goal.returns-clause-cond
returns-clause-cond g c = lifting2_cond call_cmp _ _ _ _ c.in_ok-within.within c.in_ok-within.ensures.ok

pub returns-clause-scope : goal.returns-clause-scope
returns-clause-scope g c = c.in_ok-within.ensures.scope ∙ c.requires.scope

pub returns-in_default-clause-at : goal.returns-in_default-clause-at
returns-in_default-clause-at g c = λ d t. rw c.in_default.is refl

pub returns-clause-extends : goal.returns-clause-extends
returns-clause-extends g c = Extends-trans c.in_ok-rooms.ensures.extends c.in_ok-within.ensures.extends

pub returns-clause-at : goal.returns-clause-at
returns-clause-at g c = rw c.in-Some.is (λ d t.
    let s0 = g.S.Space.sets c.args.space.now in
    let e = c.in_ok-rooms.ensures.extends in
    let s1 = g.S.Space.sets c.where_room.new.space in
    let s2 = g.S.Space.sets c.zip.new.space in
    made_of_two Illegal call_cmp s1 s2 _ call_where c.args.calls c.in_ok-rooms.rooms c.in_ok-within.within d (call_at s0 c.args.calls d) _ (λ call b k h. h)
    (cond_at-extends call_cmp e c.args.calls c.requires.calls d ∙ value_there Illegal call_cmp s0 c.args.calls d c.requires.calls (ap (λ i. s0.test i d) c.requires.scope ∙ t))
    ((rw c.width_of-width.ensures at c.in_ok-rooms.ensures.at) d t)
    c.in_ok-within.ensures.ok)
