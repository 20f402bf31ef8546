use Rattle.std.proofs.Common.{arith, sym, ◌∙◌}
use Rattle.vx_interact.proofs.Entries.{few_options}
use Rattle.vx_people.proofs.telling.explaining.Goals as goal

pub overflow_cast-len : goal.overflow_cast-len
overflow_cast-len c = omega (arith, few_options c.args.report.now c.requires, c.len.ensures)

pub new-requires : goal.new-requires
new-requires c = omega (arith, few_options c.args.report.now c.requires, c.len.ensures)

pub explain-requires-clause-options : goal.explain-requires-clause-options
explain-requires-clause-options c = sym (c.in_ok-space.ensures.options_are ∙ c.len.ensures)

pub explanation_text-requires : goal.explanation_text-requires
explanation_text-requires c = few_options c.args.report.now c.requires

pub returns : goal.returns
returns c = record { explanation = c.in_ok-explanation.explanation; are = c.in_ok-explanation.ensures.explained; spelled = c.in_ok-explanation_text.ensures }
