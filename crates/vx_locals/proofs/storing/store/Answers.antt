use Rattle.std.proofs.Common.{◌≡◌, ◌-◌, ◌<◌, ◌∙◌, ap, refl, sym, arith, length}
use Rattle.std.specs.Ordering.{bool_cmp}
use Rattle.std.specs.Prelude.{Some}
use Rattle.std.proofs.lemmas.Result.{IfOk-weaker}
use Rattle.vx_space.proofs.Spaces.{Extends-trans}
use Rattle.vx_cond.proofs.RowSteps.{IsRow-get}
use Rattle.vx_frame.proofs.FrameLaws.{IsFrame-stack}
use Rattle.vx_group.proofs.GroupLaws.{IsGroup-extends, IsGroup-path_known, IsGroup-top}
use Rattle.vx_java.specs.Locals.{store}
use Rattle.vx_group_states.specs.Sites.{here}
use Rattle.vx_group_states.proofs.SettleLaws.{lifting_cond, stack_scope}
use Rattle.vx_value.specs.Slot.{slot_cmp}
use Rattle.vx_families.specs.Sorts.{slot_is_of}
use Rattle.vx_locals.proofs.Loads.{Gives-before, store_none}
use Rattle.vx_locals.proofs.Rows.{last_is_top, tested_at}
use Rattle.vx_locals.proofs.storing.store.Goals as goal

pub returns-then-len-eq0-clause-gives : goal.returns-then-len-eq0-clause-gives
returns-then-len-eq0-clause-gives g c =
    let none : length c.args.group.top.stack.conds ≡ 0 = rw (← c.top_frame.ensures, ← c.len.ensures) c.if-len-eq0.true in
    IfOk-weaker c.illegal.result _ _ (λ r h. store_none c.args.site.now _ c.args.group c.args.sort c.args.place _ none (h _)) c.illegal.ensures

pub map-requires-clause-valid : goal.map-requires-clause-valid
map-requires-clause-valid g c = (IsRow-get slot_cmp _ c.args.group.top.stack _ c.get.result.now (IsFrame-stack _ c.args.group.top (IsGroup-top _ c.args.group c.requires.group)) (rw c.top_frame.ensures at c.get.ensures)).0

pub store_where-requires-clause-group : goal.store_where-requires-clause-group
store_where-requires-clause-group g c = IsGroup-extends c.in_ok-fits.ensures.extends c.args.group c.requires.group

pub store_where-requires-clause-fits : goal.store_where-requires-clause-fits
store_where-requires-clause-fits g c = lifting_cond bool_cmp _ _ _ c.in_ok-fits.fits c.in_ok-fits.ensures.ok

pub store_where-requires-clause-scope : goal.store_where-requires-clause-scope
store_where-requires-clause-scope g c = c.in_ok-fits.ensures.scope ∙ (IsRow-get slot_cmp _ c.args.group.top.stack _ c.get.result.now (IsFrame-stack _ c.args.group.top (IsGroup-top _ c.args.group c.requires.group)) (rw c.top_frame.ensures at c.get.ensures)).1 ∙ stack_scope _ c.args.group c.requires.group

pub store_where-requires-clause-at : goal.store_where-requires-clause-at
store_where-requires-clause-at g c =
    let start = g.S.Space.sets c.args.space.now in
    let group = c.args.group in
    let e = c.in_ok-fits.ensures.extends in
    let some : 0 < length group.top.stack.conds = rw (← c.top_frame.ensures, ← c.len.ensures) (omega (arith, c.if-len-eq0.false)) in
    let last : c.len-2.result - 1 ≡ length group.top.stack.conds - 1 = rw (← c.top_frame.ensures, ← c.len-2.ensures) refl in
    λ d t. tested_at group.top.stack (c.len-2.result - 1) c.get.result.now c.in_ok-fits.fits (slot_is_of c.args.sort) _ e (IsFrame-stack _ c.args.group.top (IsGroup-top _ c.args.group c.requires.group)) (rw c.top_frame.ensures at c.get.ensures) (λ a b h. h) c.in_ok-fits.ensures.ok d (ap (λ i. start.test i d) (stack_scope start group c.requires.group) ∙ sym (e.test group.attempts.scope d (IsGroup-path_known start group c.requires.group)) ∙ t) ∙ ap (λ slot. Some (slot_is_of c.args.sort slot)) (last_is_top (g.S.Space.sets c.map.new.space) group.top.stack (c.len-2.result - 1) d some last)

pub returns-clause-extends : goal.returns-clause-extends
returns-clause-extends g c = Extends-trans c.in_ok-fits.ensures.extends c.store_where.ensures.extends

pub returns-clause-gives : goal.returns-clause-gives
returns-clause-gives g c = IfOk-weaker c.store_where.result _ _ (λ r h. Gives-before c.args.site.now _ c.args.group (λ s. store (here c.args.site.now s) c.args.sort c.args.place s.top.operands) _ c.in_ok-fits.ensures.extends h) c.store_where.ensures.gives
