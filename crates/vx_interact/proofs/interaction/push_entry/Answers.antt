use Rattle.std.proofs.Common.{arith, refl, ◌+◌}
use Rattle.vx_interact.proofs.Entries.{few_options}
use Rattle.vx_interact.proofs.NodeOptions.{IsFreeFrom-list}
use Rattle.vx_interact.proofs.interaction.push_entry.Goals as goal

pub overflow_cast-len : goal.overflow_cast-len
overflow_cast-len c = omega (arith, few_options c.args.report.now c.requires.lawful, c.len-2.ensures)

pub options_in-requires : goal.options_in-requires
options_in-requires c = omega (arith, few_options c.args.report.now c.requires.lawful, c.len-2.ensures)

pub returns : goal.returns
returns c =
    let r = c.args.report.now in
    let bits = rw c.bits_of.ensures at c.in_ok-options.ensures in
    record {
      entry = record { piece = c.args.piece; index = c.len.result + 1; options = c.of.result };
      more = c.in_ok-push.ensures.items;
      is = record {
        kind = refl;
        number = omega (arith, c.len.ensures, c.args.entries.now.ok);
        options = rw c.of.ensures (bits _ (c.requires.bits.each c.args.node) (rw c.len-2.ensures (IsFreeFrom-list c.requires.lawful.numbered.reduced c.args.node)));
      };
    }
