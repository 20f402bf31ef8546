use Rattle.std.proofs.lemmas.Result.{IfOk-weaker}
use Rattle.vx_space.proofs.Spaces.{Extends-trans}
use Rattle.vx_group.proofs.GroupLaws.{IsGroup-extends}
use Rattle.vx_group_states.proofs.SettleLaws.{with_stack}
use Rattle.vx_stack.proofs.FormLaws.{counted-gives}
use Rattle.vx_stack.proofs.forming.counted_part.Goals as goal

pub settle-requires-clause-group : goal.settle-requires-clause-group
settle-requires-clause-group g c =
    let made = c.in_ok-group.ensures in
    with_stack _ c.args.part c.in_ok-group.group (IsGroup-extends made.extends c.args.part c.requires.group) made.same made.row made.scope

pub returns-clause-extends : goal.returns-clause-extends
returns-clause-extends g c = Extends-trans c.in_ok-group.ensures.extends c.settle.ensures.extends

pub returns-clause-gives : goal.returns-clause-gives
returns-clause-gives g c =
    IfOk-weaker c.settle.result _ _ (λ r' h'.
    let made = c.in_ok-group.ensures in
    counted-gives c.args.site.now _ c.args.part c.in_ok-group.group c.args.order c.args.upper c.args.lower _ made.extends made.same made.row made.scope made.at h')
    c.settle.ensures.gives
