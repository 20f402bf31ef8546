use Rattle.std.proofs.Common.{arith, sym, ◌∙◌}
use Rattle.vx_interact.proofs.Entries.{few_options}
use Rattle.vx_people.proofs.telling.covering.Goals as goal

pub overflow_cast-len : goal.overflow_cast-len
overflow_cast-len c = omega (arith, few_options c.args.report.now c.requires, c.len.ensures)

pub new-requires : goal.new-requires
new-requires c = omega (arith, few_options c.args.report.now c.requires, c.len.ensures)

pub cover-requires-clause-options : goal.cover-requires-clause-options
cover-requires-clause-options c = sym (c.in_ok-space.ensures.options_are ∙ c.len.ensures)

pub cover_text-requires : goal.cover_text-requires
cover_text-requires c = few_options c.args.report.now c.requires

pub returns : goal.returns
returns c = record { tries = c.in_ok-tries.tries.items; cover = c.in_ok-tries.ensures.cover; spelled = rw c.as_slice.ensures.value at c.in_ok-cover_text.ensures }
