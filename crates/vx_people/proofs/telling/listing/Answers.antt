use Rattle.std.proofs.Common.{arith, sym, ◌∙◌, ap}
use Rattle.vx_interact.proofs.Entries.{few_options}
use Rattle.vx_count.specs.Text.{listed_text}
use Rattle.vx_people.proofs.telling.listing.Goals as goal

pub overflow_cast-len : goal.overflow_cast-len
overflow_cast-len c = omega (arith, few_options c.args.report.now c.requires, c.len.ensures)

pub new-requires : goal.new-requires
new-requires c = omega (arith, few_options c.args.report.now c.requires, c.len.ensures)

pub list_report-requires-clause-options : goal.list_report-requires-clause-options
list_report-requires-clause-options c = sym (c.in_ok-space.ensures.options_are ∙ c.len.ensures)

pub listed_text-requires : goal.listed_text-requires
listed_text-requires c = few_options c.args.report.now c.requires

pub returns : goal.returns
returns c = c.in_ok-listed_text.ensures ∙ ap (listed_text c.args.report.now) c.in_ok-listed.ensures.listed
