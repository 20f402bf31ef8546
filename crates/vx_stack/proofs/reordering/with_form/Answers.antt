use Rattle.std.proofs.Common.{◌∙◌}
use Rattle.vx_frame.proofs.FrameLaws.{IsFrame-stack}
use Rattle.vx_group.proofs.GroupLaws.{IsGroup-one_scope, IsGroup-top}
use Rattle.vx_group_states.proofs.SettleLaws.{stack_scope}
use Rattle.vx_stack.proofs.reordering.with_form.Goals as goal

pub reorder-requires-clause-row : goal.reorder-requires-clause-row
reorder-requires-clause-row g c = rw c.take_top-below.ensures (IsFrame-stack _ c.args.group.top (IsGroup-top _ c.args.group c.requires.group))

pub put_top-requires-clause-scope : goal.put_top-requires-clause-scope
put_top-requires-clause-scope g c = rw c.take_top-below.ensures (IsGroup-one_scope _ c.args.group c.requires.group)

pub returns-clause-scope : goal.returns-clause-scope
returns-clause-scope g c =
    let scope = rw c.take_top-below.ensures at c.in_ok-reorder.ensures.scope in
    rw c.put_top.ensures (scope ∙ stack_scope _ c.args.group c.requires.group)
