use Rattle.std.proofs.Common.{arith}
use Rattle.vx_tally.specs.declared.node.TallyNode.{TallyNode}
use Rattle.vx_tally.proofs.PartLaws.{level-node, rules_read}
use Rattle.vx_tally.proofs.parts.divided.Goals as goal

abbrev no_node : TallyNode
no_node = record { option = 0; low = record { place = 0; more = 0 }; high = record { place = 0; more = 0 } }

pub parts-requires-clause-option : goal.parts-requires-clause-option
parts-requires-clause-option g c =
    let r = rules_read c.requires.nodes c.args.place no_node c.requires.inner c.requires.given in
    omega (arith, c.min-option.ensures, r.in_range, c.options.ensures)

pub parts-requires-clause-level : goal.parts-requires-clause-level
parts-requires-clause-level g c = omega (arith, c.min-option.ensures, level-node c.options.result c.args.nodes.now c.args.place no_node c.requires.inner c.requires.given)

pub returns : goal.returns
returns g c =
    let options = (g.S.Space.sets c.args.space.now).options in
    let r = rules_read c.requires.nodes c.args.place no_node c.requires.inner c.requires.given in
    let here = level-node options c.args.nodes.now c.args.place no_node c.requires.inner c.requires.given in
    record {
      in_range = omega (arith, c.min-option.ensures, r.in_range);
      from = λ i f l. omega (arith, c.min-option.ensures, c.level_of_set.ensures.later i (omega (arith, l, here, r.in_range)) f, l, here);
      off = c.halves-off.ensures.low;
      on = c.halves-off.ensures.high;
      low = rw c.options.ensures at c.parts.ensures.low;
      high = rw c.options.ensures at c.parts.ensures.high;
    }
