use Rattle.std.proofs.Common.{sym, ◌∙◌}
use Rattle.vx_compare.proofs.NamesOfBoth.{are_option_names, one_there, other_there}
use Rattle.vx_tool_trials.proofs.compare.is_comparison_over.Goals as goal

pub widened-requires-clause-names : goal.widened-requires-clause-names
widened-requires-clause-names c = rw c.requires.names (are_option_names c.args.one c.args.other c.requires.one c.requires.other (rw c.requires.names at c.requires.few))

pub widened-requires-clause-all : goal.widened-requires-clause-all
widened-requires-clause-all c = rw c.requires.names (one_there c.args.one.options c.args.other.options)

pub widened-requires-2-clause-names : goal.widened-requires-2-clause-names
widened-requires-2-clause-names c = rw c.requires.names (are_option_names c.args.one c.args.other c.requires.one c.requires.other (rw c.requires.names at c.requires.few))

pub widened-requires-2-clause-all : goal.widened-requires-2-clause-all
widened-requires-2-clause-all c = rw c.requires.names (other_there c.args.one.options c.args.other.options)

pub compare-requires-clause-names : goal.compare-requires-clause-names
compare-requires-clause-names c = c.in_ok-one.ensures.wide.options ∙ sym c.in_ok-other.ensures.wide.options

pub compared_text-requires : goal.compared_text-requires
compared_text-requires c = rw c.in_ok-one.ensures.wide.options c.requires.few
