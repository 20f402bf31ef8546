use Rattle.std.proofs.Common.{arith, sym, ◌∙◌, ap}
use Rattle.vx_interact.proofs.Entries.{few_options}
use Rattle.vx_count.specs.Text.{counts_text}
use Rattle.vx_people.proofs.telling.counting.Goals as goal

pub overflow_cast-len : goal.overflow_cast-len
overflow_cast-len c = omega (arith, few_options c.args.report.now c.requires, c.len.ensures)

pub new-requires : goal.new-requires
new-requires c = omega (arith, few_options c.args.report.now c.requires, c.len.ensures)

pub count_report-requires-clause-options : goal.count_report-requires-clause-options
count_report-requires-clause-options c = sym (c.in_ok-space.ensures.options_are ∙ c.len.ensures)

pub returns : goal.returns
returns c = c.in_ok-counts_text.ensures ∙ ap counts_text c.in_ok-counts.ensures.counts
