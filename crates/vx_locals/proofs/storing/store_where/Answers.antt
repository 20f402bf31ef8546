use Rattle.std.proofs.Common.{◌≡◌, ◌∙◌, refl, sym}
use Rattle.std.specs.Ordering.{bool_cmp}
use Rattle.std.proofs.lemmas.Result.{IfOk-weaker}
use Rattle.vx_space.proofs.Spaces.{Extends-trans}
use Rattle.vx_cond.proofs.CondLaws.{IsCond-extends}
use Rattle.vx_cond.proofs.RowLaws.{IsRow-extends}
use Rattle.vx_frame.proofs.FrameLaws.{IsFrame-locals}
use Rattle.vx_group.proofs.GroupLaws.{IsGroup-one_scope, IsGroup-top}
use Rattle.vx_group_states.proofs.Gathering.{AreLeaves-of, Cover-answers}
use Rattle.vx_value.specs.Slot.{slot_cmp}
use Rattle.vx_locals.proofs.Rows.{operands_at-extends}
use Rattle.vx_locals.proofs.Written.{IsGroup-written, store-gives, top_taken, written}
use Rattle.vx_locals.proofs.storing.store_where.Goals as goal

pub write_local-requires-clause-row : goal.write_local-requires-clause-row
write_local-requires-clause-row g c = rw c.take_top-below.ensures (IsFrame-locals _ c.args.group.top (IsGroup-top _ c.args.group c.requires.group))

pub write_local-requires-clause-value : goal.write_local-requires-clause-value
write_local-requires-clause-value g c = (top_taken _ c.args.group c.pop.new.self c.in-Some.value c.requires.group (rw c.take_top-below.ensures at c.in-Some.ensures.some)).is_cond

pub write_local-requires-clause-scope : goal.write_local-requires-clause-scope
write_local-requires-clause-scope g c = rw c.take_top-below.ensures ((top_taken _ c.args.group c.pop.new.self c.in-Some.value c.requires.group (rw c.take_top-below.ensures at c.in-Some.ensures.some)).scope ∙ sym (IsGroup-one_scope _ c.args.group c.requires.group))

pub put_top-requires-clause-scope : goal.put_top-requires-clause-scope
put_top-requires-clause-scope g c = rw c.take_top-below.ensures ((rw c.take_top-below.ensures at c.in_ok-write_local.ensures.ok).scope ∙ IsGroup-one_scope _ c.args.group c.requires.group)

pub pass_where-requires-clause-group : goal.pass_where-requires-clause-group
pass_where-requires-clause-group g c =
    let group = c.args.group in
    let e = c.in_ok-write_local.ensures.extends in
    let top = top_taken _ group c.pop.new.self c.in-Some.value c.requires.group (rw c.take_top-below.ensures at c.in-Some.ensures.some) in
    let made = rw c.take_top-below.ensures at c.in_ok-write_local.ensures.ok in
    let after : c.put_top.result ≡ written group c.write_local.new.locals c.pop.new.self = rw (c.put_top.ensures, c.take_top-below.ensures) refl in
    rw after (IsGroup-written group c.write_local.new.locals c.pop.new.self _ e c.requires.group made (IsRow-extends slot_cmp e c.pop.new.self top.below_row) top.below_scope)

pub pass_where-requires-clause-leaves : goal.pass_where-requires-clause-leaves
pass_where-requires-clause-leaves g c = rw c.leaves.ensures (AreLeaves-of bool_cmp _ c.args.fits.now (IsCond-extends bool_cmp c.in_ok-write_local.ensures.extends c.args.fits.now c.requires.fits))

pub pass_where-requires-clause-cover : goal.pass_where-requires-clause-cover
pass_where-requires-clause-cover g c = rw (c.leaves.ensures, c.put_top.ensures, c.take_top-below.ensures) (Cover-answers bool_cmp _ _ c.args.fits.now (IsCond-extends bool_cmp c.in_ok-write_local.ensures.extends c.args.fits.now c.requires.fits) c.requires.scope)

pub returns-clause-extends : goal.returns-clause-extends
returns-clause-extends g c = Extends-trans c.in_ok-write_local.ensures.extends c.pass_where.ensures.extends

pub returns-clause-gives : goal.returns-clause-gives
returns-clause-gives g c =
    let group = c.args.group in
    let e = c.in_ok-write_local.ensures.extends in
    let top = top_taken _ group c.pop.new.self c.in-Some.value c.requires.group (rw c.take_top-below.ensures at c.in-Some.ensures.some) in
    let made = rw c.take_top-below.ensures at c.in_ok-write_local.ensures.ok in
    let after : c.put_top.result ≡ written group c.write_local.new.locals c.pop.new.self = rw (c.put_top.ensures, c.take_top-below.ensures) refl in
    IfOk-weaker c.pass_where.result _ _ (λ r h. store-gives c.args.site.now _ group c.put_top.result c.pop.new.self c.write_local.new.locals c.in-Some.value c.args.fits.now c.args.sort c.args.place _ e made (IsRow-extends slot_cmp e c.pop.new.self top.below_row) top.below_scope (rw c.take_top-below.ensures at c.in-Some.ensures.some) (operands_at-extends e c.pop.new.self top.below_row) c.requires.fits c.requires.at after (rw c.leaves.ensures at h)) c.pass_where.ensures.gives
