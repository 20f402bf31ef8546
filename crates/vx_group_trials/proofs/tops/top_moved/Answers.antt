use Rattle.vx_group.proofs.GroupLaws.{IsGroup-one_scope}
use Rattle.vx_group_trials.proofs.tops.top_moved.Goals as goal

pub put_top-group-requires-clause-scope : goal.put_top-group-requires-clause-scope
put_top-group-requires-clause-scope g c = rw c.take_top-below.ensures (IsGroup-one_scope _ _ c.in_ok-group.ensures.single.is_group)
