use Rattle.std.proofs.Common.{arith, sym, ◌∙◌, ap}
use Rattle.vx_interact.proofs.Entries.{few_options}
use Rattle.vx_check_commands.specs.Check.{last_of}
use Rattle.vx_check_commands.proofs.check.checking.Goals as goal

pub overflow_cast-len : goal.overflow_cast-len
overflow_cast-len c = omega (arith, few_options c.args.report.now c.requires.lawful, c.len.ensures)

pub new-requires : goal.new-requires
new-requires c = omega (arith, few_options c.args.report.now c.requires.lawful, c.len.ensures)

pub check_report-requires-clause-options : goal.check_report-requires-clause-options
check_report-requires-clause-options c = sym (c.in_ok-space.ensures.options_are ∙ c.len.ensures)

pub checked_text-requires : goal.checked_text-requires
checked_text-requires c = few_options c.args.report.now c.requires.lawful

pub returns : goal.returns
returns c = record {
  shows = record { checked = c.in_ok-checked.checked; is_checked = c.in_ok-checked.ensures.checked; spelled = c.in_ok-text.ensures };
  last = c.last_of.ensures ∙ ap last_of c.in_ok-checked.ensures.checked.failing;
}
