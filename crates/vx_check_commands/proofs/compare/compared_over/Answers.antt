use Rattle.std.proofs.Common.{◌∙◌, ap, length, sym}
use Rattle.vx_compare.proofs.NamesOfBoth.{are_option_names, one_there, other_there}
use Rattle.vx_check_commands.proofs.Comparisons.{gives_comparison}
use Rattle.vx_check_commands.proofs.compare.compared_over.Goals as goal

pub widened-requires-clause-names : goal.widened-requires-clause-names
widened-requires-clause-names c = rw c.requires.names (are_option_names c.args.one c.args.other c.requires.one c.requires.other (rw c.requires.names at c.requires.few))

pub widened-requires-clause-all : goal.widened-requires-clause-all
widened-requires-clause-all c = rw c.requires.names (one_there c.args.one.options c.args.other.options)

pub widened-requires-clause-options : goal.widened-requires-clause-options
widened-requires-clause-options c = sym c.in_ok-space.ensures.options_are

pub widened-requires-2-clause-names : goal.widened-requires-2-clause-names
widened-requires-2-clause-names c = rw c.requires.names (are_option_names c.args.one c.args.other c.requires.one c.requires.other (rw c.requires.names at c.requires.few))

pub widened-requires-2-clause-all : goal.widened-requires-2-clause-all
widened-requires-2-clause-all c = rw c.requires.names (other_there c.args.one.options c.args.other.options)

pub widened-requires-2-clause-options : goal.widened-requires-2-clause-options
widened-requires-2-clause-options c = sym (c.in_ok-one.ensures.extends.options ∙ c.in_ok-space.ensures.options_are)

pub compare-requires-clause-one : goal.compare-requires-clause-one
compare-requires-clause-one c = c.in_ok-one.ensures.wide.lawful

pub compare-requires-clause-other : goal.compare-requires-clause-other
compare-requires-clause-other c = c.in_ok-other.ensures.wide.lawful

pub compare-requires-clause-names : goal.compare-requires-clause-names
compare-requires-clause-names c = c.in_ok-one.ensures.wide.options ∙ sym c.in_ok-other.ensures.wide.options

pub compare-requires-clause-options : goal.compare-requires-clause-options
compare-requires-clause-options c = ap length c.in_ok-one.ensures.wide.options ∙ sym (c.in_ok-other.ensures.extends.options ∙ c.in_ok-one.ensures.extends.options ∙ c.in_ok-space.ensures.options_are)

pub compared_text-requires : goal.compared_text-requires
compared_text-requires c = rw c.in_ok-one.ensures.wide.options c.requires.few

pub returns : goal.returns
returns c = gives_comparison c.args.one c.args.other c.args.names.now c.in_ok-one.one c.in_ok-other.other c.in_ok-compared.compared _ c.requires.names c.requires.few c.in_ok-one.ensures.wide c.in_ok-other.ensures.wide c.in_ok-compared.ensures.compared c.in_ok-text.ensures c.last_of.ensures
