use Rattle.std.proofs.Common.{◌+◌, ◌≤◌, ◌∙◌, length}
use Rattle.std.proofs.lemmas.Result.{IfOk-weaker}
use Rattle.std.specs.Ordering.{bool_cmp}
use Rattle.vx_space.proofs.Spaces.{Extends-refl, Extends-trans}
use Rattle.vx_frame.proofs.FrameLaws.{IsFrame-stack}
use Rattle.vx_group.proofs.GroupLaws.{IsGroup-extends, IsGroup-top}
use Rattle.vx_group_states.proofs.Gathering.{AreLeaves-of, Cover-answers}
use Rattle.vx_group_states.proofs.SettleLaws.{lifting_cond, settle-gives, stack_scope, surely-settles}
use Rattle.vx_group_states.proofs.settling.settle.Goals as goal

pub returns-then-surely_fit-clause-extends : goal.returns-then-surely_fit-clause-extends
returns-then-surely_fit-clause-extends g c = Extends-refl _

pub returns-then-surely_fit-clause-gives : goal.returns-then-surely_fit-clause-gives
returns-then-surely_fit-clause-gives g c =
    let few : length c.args.group.top.stack.conds + length c.args.group.top.stack.conds ≤ c.args.site.now.code.now.max_stack = rw (← c.from.ensures, ← c.top_frame.ensures, ← c.len.ensures) (c.surely_fit.ensures c.if-surely_fit.true) in
    surely-settles c.args.site.now _ c.args.group _ few c.in_ok-passed.ensures

pub stack_size-requires-clause-row : goal.stack_size-requires-clause-row
stack_size-requires-clause-row g c = rw c.top_frame.ensures (IsFrame-stack _ c.args.group.top (IsGroup-top _ c.args.group c.requires.group))

pub stack_size-requires-clause-few : goal.stack_size-requires-clause-few
stack_size-requires-clause-few g c = rw (c.top_frame.ensures, ← c.group.view_is) c.group.invariant.1

pub pass_where-requires-clause-group : goal.pass_where-requires-clause-group
pass_where-requires-clause-group g c = IsGroup-extends (Extends-trans c.in_ok-sizes.ensures.extends c.in_ok-fits.ensures.extends) c.args.group c.requires.group

pub pass_where-requires-clause-leaves : goal.pass_where-requires-clause-leaves
pass_where-requires-clause-leaves g c = rw c.leaves.ensures (AreLeaves-of bool_cmp _ c.in_ok-fits.fits (lifting_cond bool_cmp _ _ _ c.in_ok-fits.fits c.in_ok-fits.ensures.ok))

pub pass_where-requires-clause-cover : goal.pass_where-requires-clause-cover
pass_where-requires-clause-cover g c = rw c.leaves.ensures (Cover-answers bool_cmp _ _ c.in_ok-fits.fits (lifting_cond bool_cmp _ _ _ c.in_ok-fits.fits c.in_ok-fits.ensures.ok) (c.in_ok-fits.ensures.scope ∙ (rw c.top_frame.ensures at c.in_ok-sizes.ensures.scope) ∙ stack_scope _ c.args.group c.requires.group))

pub returns-clause-extends : goal.returns-clause-extends
returns-clause-extends g c = Extends-trans (Extends-trans c.in_ok-sizes.ensures.extends c.in_ok-fits.ensures.extends) c.pass_where.ensures.extends

pub returns-clause-gives : goal.returns-clause-gives
returns-clause-gives g c =
    IfOk-weaker c.pass_where.result _ _ (λ r' h'. settle-gives c.args.site.now c.args.group c.in_ok-sizes.sizes c.in_ok-fits.fits _ _ (λ n b h. rw c.from-room.ensures at h) c.in_ok-sizes.ensures.extends c.in_ok-fits.ensures.extends c.requires.group (rw c.top_frame.ensures at c.in_ok-sizes.ensures.at) c.in_ok-fits.ensures.ok (rw c.leaves.ensures at h'))
    c.pass_where.ensures.gives
