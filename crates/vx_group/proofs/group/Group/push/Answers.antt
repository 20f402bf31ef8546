use Rattle.std.proofs.Common.{◌∙◌, ap}
use Rattle.slab.specs.Slab.{Slab}
use Rattle.vx_group.specs.declared.callers.Caller.{Caller}
use Rattle.vx_group.proofs.CallerLaws.{slab_added}
use Rattle.vx_group.proofs.GroupLaws.{IsGroupIn-pushed, stack_of-pushed}
use Rattle.vx_group.proofs.group.Group.push.Goals as goal

pub returns-clause-valid : goal.returns-clause-valid
returns-clause-valid g c =
    let slots = ap (λ (s : Slab (Caller _ _)). s.slots) c.in_ok-reserve.ensures.rest_kept ∙ c.callers.view_is in
    let added = slab_added c.args.callers.now _ _ c.insert_reserved-number.result _ slots c.insert_reserved-number.ensures.was_vacant (rw c.replace-top.ensures.value at c.insert_reserved-number.ensures.updates) in
    rw (c.replace-top.ensures.after, c.in_ok-push.ensures.ok, c.part.ensures) (IsGroupIn-pushed _ _ c.args.frame c.insert_reserved-number.result (rw (← c.self.view_is) at c.requires.group) c.requires.frame (rw (← c.self.view_is) at c.requires.scope) c.self.invariant.1 added.0 added.1)

pub returns-clause-stack : goal.returns-clause-stack
returns-clause-stack g c =
    let slots = ap (λ (s : Slab (Caller _ _)). s.slots) c.in_ok-reserve.ensures.rest_kept ∙ c.callers.view_is in
    let added = slab_added c.args.callers.now _ _ c.insert_reserved-number.result _ slots c.insert_reserved-number.ensures.was_vacant (rw c.replace-top.ensures.value at c.insert_reserved-number.ensures.updates) in
    rw (← c.self.view_is, c.replace-top.ensures.after, c.in_ok-push.ensures.ok) (stack_of-pushed (g.S.Space.sets c.args.space.now) _ c.args.frame c.insert_reserved-number.result (rw (← c.self.view_is) at c.requires.group) added.0 added.1)
