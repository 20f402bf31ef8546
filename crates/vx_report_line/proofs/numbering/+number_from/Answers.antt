use Rattle.std.proofs.Common.{sym, arith, add-one}
use Rattle.vx_bdd_tools.specs.Numbering.{Numbers}
use Rattle.vx_report_line.proofs.Orders.{no_high, other_last, node_within}
use Rattle.vx_report_line.proofs.numbering.+number_from.Goals as goal

pub returns-then-node-given : goal.returns-then-node-given
returns-then-node-given t c = Numbers.given _ _ c.if-node-given.true

pub returns-in_default-number_from-2 : goal.returns-in_default-number_from-2
returns-in_default-number_from-2 t c = λ m w. no_high _ _ _ m _ _ c.if-node-given.false (sym c.in-Some.ensures) c.in-Some-number_from.ensures c.in_default-number_from-2.ensures w

pub overflow_add-result : goal.overflow_add-result
overflow_add-result t c = let within = node_within c.args.nodes.now c.args.node c.in-Some.inner.now (sym c.in-Some.ensures) in omega (arith, within, c.requires.room)

pub returns-then-last-node : goal.returns-then-last-node
returns-then-last-node t c = rw add-one (Numbers.made _ _ _ _ c.if-node-given.false (sym c.in-Some.ensures) c.in-Some-number_from.ensures (rw c.if-last-node.true at c.in-Some-number_from-2.ensures))

pub returns-else-last-node : goal.returns-else-last-node
returns-else-last-node t c = λ m w. other_last _ _ _ m _ _ _ c.if-node-given.false (sym c.in-Some.ensures) c.in-Some-number_from.ensures c.in-Some-number_from-2.ensures c.if-last-node.false w
