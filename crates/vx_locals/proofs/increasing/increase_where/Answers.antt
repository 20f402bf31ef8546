use Rattle.std.proofs.Common.{◌≡◌, ◌∙◌, ap, refl}
use Rattle.std.proofs.Math.Facts.{to_z-of_z}
use Rattle.std.specs.Int.{w32}
use Rattle.std.specs.Ordering.{bool_cmp}
use Rattle.std.specs.Prelude.{slice_set}
use Rattle.std.proofs.lemmas.Result.{IfOk-weaker}
use Rattle.vx_space.proofs.Spaces.{Extends-trans}
use Rattle.vx_cond.proofs.CondLaws.{IsCond-extends}
use Rattle.vx_cond.proofs.RowLaws.{IsRow-extends}
use Rattle.vx_cond.proofs.RowSteps.{IsRow-get}
use Rattle.vx_frame.proofs.FrameLaws.{IsFrame-locals, IsFrame-stack}
use Rattle.vx_group.proofs.GroupLaws.{IsGroup-one_scope, IsGroup-top}
use Rattle.vx_group_states.proofs.Gathering.{AreLeaves-of, Cover-answers}
use Rattle.vx_group_states.proofs.SettleLaws.{lifting_cond, stack_scope}
use Rattle.vx_value.specs.Slot.{slot_cmp}
use Rattle.vx_locals.specs.Slots.{increased}
use Rattle.vx_locals.proofs.Lifts.{mapped_at}
use Rattle.vx_locals.proofs.Rows.{AreLocals-mapped, operands_at-extends}
use Rattle.vx_locals.proofs.Written.{IsGroup-written, increase-gives, written}
use Rattle.vx_locals.proofs.increasing.increase_where.Goals as goal

pub map-requires-clause-valid : goal.map-requires-clause-valid
map-requires-clause-valid g c = (IsRow-get slot_cmp _ c.args.group.top.locals c.args.place c.get.result.now (IsFrame-locals _ c.args.group.top (IsGroup-top _ c.args.group c.requires.group)) (rw (c.take_top-below.ensures, c.from.ensures) at c.get.ensures)).0

pub put_top-requires-clause-scope : goal.put_top-requires-clause-scope
put_top-requires-clause-scope g c = rw (c.set.ensures, c.take_top-below.ensures) (IsGroup-one_scope _ c.args.group c.requires.group)

pub pass_where-requires-clause-group : goal.pass_where-requires-clause-group
pass_where-requires-clause-group g c =
    let start = g.S.Space.sets c.args.space.now in
    let group = c.args.group in
    let e = c.in_ok-value.ensures.extends in
    let value = c.in_ok-value.value in
    let row = IsFrame-locals start group.top (IsGroup-top start group c.requires.group) in
    let local = IsRow-get slot_cmp start group.top.locals c.args.place c.get.result.now row (rw (c.take_top-below.ensures, c.from.ensures) at c.get.ensures) in
    let made = AreLocals-mapped group.top.locals c.args.place c.get.result.now value (increased c.args.by) e row (rw (c.take_top-below.ensures, c.from.ensures) at c.get.ensures) (lifting_cond slot_cmp _ _ _ value c.in_ok-value.ensures.ok) (c.in_ok-value.ensures.scope ∙ local.1) (λ d t. mapped_at slot_cmp start _ _ (increased c.args.by) c.get.result.now value (λ a b h. h ∙ ap (λ by. increased by a) (to_z-of_z {w = w32} {z = c.args.by} c.ranges.by)) local.0 c.in_ok-value.ensures.ok d (ap (λ i. start.test i d) local.1 ∙ t)) in
    let locals = record (group.top.locals) { conds = slice_set group.top.locals.conds c.args.place value } in
    let stack = IsRow-extends slot_cmp e group.top.stack (IsFrame-stack start group.top (IsGroup-top start group c.requires.group)) in
    let after : c.put_top.result ≡ written group locals group.top.stack = rw (c.put_top.ensures, c.set.ensures, c.from-2.ensures, c.take_top-below.ensures) refl in
    rw after (IsGroup-written group locals group.top.stack _ e c.requires.group made stack (stack_scope start group c.requires.group))

pub pass_where-requires-clause-leaves : goal.pass_where-requires-clause-leaves
pass_where-requires-clause-leaves g c = rw c.leaves.ensures (AreLeaves-of bool_cmp _ c.args.fits.now (IsCond-extends bool_cmp c.in_ok-value.ensures.extends c.args.fits.now c.requires.fits))

pub pass_where-requires-clause-cover : goal.pass_where-requires-clause-cover
pass_where-requires-clause-cover g c = rw (c.leaves.ensures, c.put_top.ensures, c.take_top-below.ensures) (Cover-answers bool_cmp _ _ c.args.fits.now (IsCond-extends bool_cmp c.in_ok-value.ensures.extends c.args.fits.now c.requires.fits) c.requires.scope)

pub returns-clause-extends : goal.returns-clause-extends
returns-clause-extends g c = Extends-trans c.in_ok-value.ensures.extends c.pass_where.ensures.extends

pub returns-clause-gives : goal.returns-clause-gives
returns-clause-gives g c =
    let start = g.S.Space.sets c.args.space.now in
    let group = c.args.group in
    let e = c.in_ok-value.ensures.extends in
    let value = c.in_ok-value.value in
    let row = IsFrame-locals start group.top (IsGroup-top start group c.requires.group) in
    let local = IsRow-get slot_cmp start group.top.locals c.args.place c.get.result.now row (rw (c.take_top-below.ensures, c.from.ensures) at c.get.ensures) in
    let made = AreLocals-mapped group.top.locals c.args.place c.get.result.now value (increased c.args.by) e row (rw (c.take_top-below.ensures, c.from.ensures) at c.get.ensures) (lifting_cond slot_cmp _ _ _ value c.in_ok-value.ensures.ok) (c.in_ok-value.ensures.scope ∙ local.1) (λ d t. mapped_at slot_cmp start _ _ (increased c.args.by) c.get.result.now value (λ a b h. h ∙ ap (λ by. increased by a) (to_z-of_z {w = w32} {z = c.args.by} c.ranges.by)) local.0 c.in_ok-value.ensures.ok d (ap (λ i. start.test i d) local.1 ∙ t)) in
    let locals = record (group.top.locals) { conds = slice_set group.top.locals.conds c.args.place value } in
    let stack = IsRow-extends slot_cmp e group.top.stack (IsFrame-stack start group.top (IsGroup-top start group c.requires.group)) in
    let after : c.put_top.result ≡ written group locals group.top.stack = rw (c.put_top.ensures, c.set.ensures, c.from-2.ensures, c.take_top-below.ensures) refl in
    IfOk-weaker c.pass_where.result _ _ (λ r h. increase-gives c.args.site.now _ group c.put_top.result locals c.args.fits.now c.args.place c.args.by _ e made stack (stack_scope start group c.requires.group) (operands_at-extends e group.top.stack (IsFrame-stack start group.top (IsGroup-top start group c.requires.group))) c.requires.fits c.requires.at after (rw c.leaves.ensures at h)) c.pass_where.ensures.gives
