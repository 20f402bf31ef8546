use Rattle.std.proofs.Common.{arith, ◌∙◌, sym}
use Rattle.vx_tally.specs.declared.node.TallyNode.{TallyNode}
use Rattle.vx_tally.proofs.PartLaws.{rules_read}
use Rattle.vx_tally.proofs.TallyLaws.{taken-number}
use Rattle.vx_tally.proofs.tally.edge_taken.Goals as goal

abbrev no_node : TallyNode
no_node = record { option = 0; low = record { place = 0; more = 0 }; high = record { place = 0; more = 0 } }

pub returns-then-is_on-clause-falls : goal.returns-then-is_on-clause-falls
returns-then-is_on-clause-falls c =
    let r = rules_read c.requires.nodes c.args.place no_node c.requires.inner c.requires.given in
    omega (arith, r.high_given, c.requires.inner)

pub returns-then-is_on-clause-number : goal.returns-then-is_on-clause-number
returns-then-is_on-clause-number c = taken-number c.requires.nodes c.args.place no_node c.args.c.now _ c.requires.inner c.requires.given (sym c.is_on.ensures ∙ c.if-is_on.true)

pub returns-else-is_on-clause-falls : goal.returns-else-is_on-clause-falls
returns-else-is_on-clause-falls c =
    let r = rules_read c.requires.nodes c.args.place no_node c.requires.inner c.requires.given in
    omega (arith, r.low_given, c.requires.inner)

pub returns-else-is_on-clause-number : goal.returns-else-is_on-clause-number
returns-else-is_on-clause-number c = taken-number c.requires.nodes c.args.place no_node c.args.c.now _ c.requires.inner c.requires.given (sym c.is_on.ensures ∙ c.if-is_on.false)
