use Rattle.std.proofs.Common.{arith}
use Rattle.vx_interact.proofs.Entries.{few_options}
use Rattle.vx_interact.proofs.interaction.interactions.Goals as goal

pub overflow_cast-len : goal.overflow_cast-len
overflow_cast-len c = omega (arith, few_options c.args.report.now c.requires, c.len.ensures)

pub option_bits-requires-clause-few : goal.option_bits-requires-clause-few
option_bits-requires-clause-few c = omega (arith, few_options c.args.report.now c.requires, c.len.ensures)

pub option_bits-requires-clause-reduced : goal.option_bits-requires-clause-reduced
option_bits-requires-clause-reduced c = rw (c.as_slice.ensures, c.len.ensures) c.requires.numbered.reduced
