use Rattle.std.proofs.Common.{◌≤◌, ◌∙◌, ap, sym, length}
use Rattle.std.proofs.Math.Facts.{to_z-of_z}
use Rattle.std.specs.Int.{w32}
use Rattle.std.specs.Ordering.{bool_cmp}
use Rattle.std.proofs.lemmas.Result.{IfOk-weaker}
use Rattle.vx_space.proofs.Spaces.{Extends-trans}
use Rattle.vx_cond.proofs.RowSteps.{IsRow-get}
use Rattle.vx_frame.proofs.FrameLaws.{IsFrame-locals}
use Rattle.vx_group.proofs.GroupLaws.{IsGroup-extends, IsGroup-one_scope, IsGroup-path_known, IsGroup-top}
use Rattle.vx_java.specs.declared.operation.Sort.TheVariants.{Int as IntSort}
use Rattle.vx_java.specs.Locals.{increase}
use Rattle.vx_java.specs.Machine.{Top}
use Rattle.vx_list.specs.Places.{item_or}
use Rattle.vx_group_states.specs.Sites.{here}
use Rattle.vx_group_states.proofs.SettleLaws.{lifting_cond}
use Rattle.vx_value.specs.Slot.{slot_cmp}
use Rattle.vx_families.specs.Sorts.{slot_is_of}
use Rattle.vx_locals.proofs.Loads.{Gives-before, increase_none}
use Rattle.vx_locals.proofs.Rows.{tested_at}
use Rattle.vx_locals.proofs.increasing.increase.Goals as goal

pub returns-then-len-from-clause-gives : goal.returns-then-len-from-clause-gives
returns-then-len-from-clause-gives g c =
    let past : length c.args.group.top.locals.conds ≤ c.args.place = rw (← c.top_frame.ensures, ← c.len.ensures, ← c.from.ensures) c.if-len-from.true in
    IfOk-weaker c.illegal.result _ _ (λ r h. increase_none c.args.site.now _ c.args.group c.args.place c.args.by _ past (h _)) c.illegal.ensures

pub map-requires-clause-valid : goal.map-requires-clause-valid
map-requires-clause-valid g c = (IsRow-get slot_cmp _ c.args.group.top.locals c.args.place c.get.result.now (IsFrame-locals _ c.args.group.top (IsGroup-top _ c.args.group c.requires.group)) (rw (c.top_frame.ensures, c.from-2.ensures) at c.get.ensures)).0

pub increase_where-requires-clause-group : goal.increase_where-requires-clause-group
increase_where-requires-clause-group g c = IsGroup-extends c.in_ok-fits.ensures.extends c.args.group c.requires.group

pub increase_where-requires-clause-fits : goal.increase_where-requires-clause-fits
increase_where-requires-clause-fits g c = lifting_cond bool_cmp _ _ _ c.in_ok-fits.fits c.in_ok-fits.ensures.ok

pub increase_where-requires-clause-scope : goal.increase_where-requires-clause-scope
increase_where-requires-clause-scope g c = c.in_ok-fits.ensures.scope ∙ (IsRow-get slot_cmp _ c.args.group.top.locals c.args.place c.get.result.now (IsFrame-locals _ c.args.group.top (IsGroup-top _ c.args.group c.requires.group)) (rw (c.top_frame.ensures, c.from-2.ensures) at c.get.ensures)).1 ∙ IsGroup-one_scope _ c.args.group c.requires.group

pub increase_where-requires-clause-at : goal.increase_where-requires-clause-at
increase_where-requires-clause-at g c =
    let start = g.S.Space.sets c.args.space.now in
    let group = c.args.group in
    let e = c.in_ok-fits.ensures.extends in
    λ d t. tested_at group.top.locals c.args.place c.get.result.now c.in_ok-fits.fits (slot_is_of IntSort) _ e (IsFrame-locals start group.top (IsGroup-top start group c.requires.group)) (rw (c.top_frame.ensures, c.from-2.ensures) at c.get.ensures) (λ a b h. h) c.in_ok-fits.ensures.ok d (ap (λ i. start.test i d) (IsGroup-one_scope start group c.requires.group) ∙ sym (e.test group.attempts.scope d (IsGroup-path_known start group c.requires.group)) ∙ t)

pub returns-clause-extends : goal.returns-clause-extends
returns-clause-extends g c = Extends-trans c.in_ok-fits.ensures.extends c.increase_where.ensures.extends

pub returns-clause-gives : goal.returns-clause-gives
returns-clause-gives g c = IfOk-weaker c.increase_where.result _ _ (λ r h. Gives-before c.args.site.now _ c.args.group (λ s. increase (here c.args.site.now s) c.args.place c.args.by (item_or s.top.locals c.args.place Top)) _ c.in_ok-fits.ensures.extends (rw (to_z-of_z {w = w32} {z = c.args.by} c.ranges.by) at h)) c.increase_where.ensures.gives
