use Rattle.std.proofs.Common.{sym}
use Rattle.vx_bdd.proofs.TableLaws.{node_at_most}
use Rattle.vx_bdd.proofs.table.Table.asked.Goals as goal

pub returns-in-Some-clause-at_most : goal.returns-in-Some-clause-at_most
returns-in-Some-clause-at_most c = node_at_most c.args.self.now.reduced c.args.id c.in-Some.node (sym c.in-Some.ensures)
