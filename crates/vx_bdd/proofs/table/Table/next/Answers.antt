use Rattle.std.proofs.Common.{true, false}
use Rattle.vx_bdd.proofs.SpaceLaws.{IsStep-node}
use Rattle.vx_bdd.proofs.table.Table.next.Goals as goal

pub returns-then-is_on : goal.returns-then-is_on
returns-then-is_on c = IsStep-node c.args.self.now.reduced c.args.at c.in-Some.node.now c.args.c.now true c.requires.node c.in-Some.ensures c.if-is_on.ensures

pub returns-else-is_on : goal.returns-else-is_on
returns-else-is_on c = IsStep-node c.args.self.now.reduced c.args.at c.in-Some.node.now c.args.c.now false c.requires.node c.in-Some.ensures c.if-is_on.ensures
