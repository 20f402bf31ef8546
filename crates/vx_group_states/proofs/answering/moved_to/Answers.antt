use Rattle.std.proofs.Common.{◌∙◌, refl}
use Rattle.vx_frame.proofs.FrameLaws.{IsFrame-stack}
use Rattle.vx_group.proofs.GroupLaws.{IsGroup-one_scope, IsGroup-top}
use Rattle.vx_group_states.proofs.SettleLaws.{stack_scope}
use Rattle.vx_group_states.proofs.answering.moved_to.Goals as goal

pub drop_operands-requires-clause-row : goal.drop_operands-requires-clause-row
drop_operands-requires-clause-row g c = rw c.take_top-below.ensures (IsFrame-stack _ c.args.group.top (IsGroup-top _ c.args.group c.requires.group))

pub put_top-requires-clause-scope : goal.put_top-requires-clause-scope
put_top-requires-clause-scope g c = rw c.take_top-below.ensures (IsGroup-one_scope _ c.args.group c.requires.group)

pub returns : goal.returns
returns g c =
    let dropped = rw c.take_top-below.ensures at c.drop_operands.ensures in
    record {
      same = rw (c.put_top.ensures, c.take_top-below.ensures) refl;
      row = rw c.put_top.ensures dropped.row;
      scope = rw c.put_top.ensures (dropped.scope ∙ stack_scope _ c.args.group c.requires.group);
      at = rw c.put_top.ensures dropped.at;
    }
