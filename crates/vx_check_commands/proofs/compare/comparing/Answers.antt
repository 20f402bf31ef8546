use Rattle.std.proofs.Common.{◌∙◌}
use Rattle.vx_compare.specs.Names.{all_names}
use Rattle.vx_check_commands.proofs.Comparisons.{is_made, many}
use Rattle.vx_check_commands.proofs.compare.comparing.Goals as goal

pub compared_over-requires-clause-names : goal.compared_over-requires-clause-names
compared_over-requires-clause-names c = c.as_slice-3.ensures.value ∙ c.in_ok-names.ensures ∙ (λ i. all_names (c.as_slice.ensures i) (c.as_slice-2.ensures i))

pub returns : goal.returns
returns c = is_made c.args.one c.args.other c.compared_over.result c.compared_over.ensures
