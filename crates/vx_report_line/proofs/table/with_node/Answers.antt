use Rattle.vx_report_line.proofs.Known.{known_more}
use Rattle.vx_report_line.proofs.table.with_node.Goals as goal

pub returns-clause-known : goal.returns-clause-known
returns-clause-known c = rw c.in_ok-push.ensures.items (known_more _ _ _ _ c.requires c.in_ok-insert.ensures.updates.0)
