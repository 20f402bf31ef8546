use Rattle.std.proofs.Common.{◌∙◌, List, ap, ℕ}
use Rattle.vx_compare.specs.Wide.{wide_report}
use Rattle.vx_compare.proofs.WideReports.{is_wide}
use Rattle.vx_compare.proofs.wide.widened.Goals as goal

pub returns-clause-wide : goal.returns-clause-wide
returns-clause-wide g c =
    let list = c.in_ok-list.list in
    is_wide c.args.report c.args.names.now list.nodes list.roots _ c.requires.lawful c.requires.names c.requires.all c.in_ok-list.ensures.list
    (c.in_ok-with_nodes.ensures ∙ ap (λ (names : List (List ℕ)). wide_report c.args.report names list.nodes list.roots) c.in_ok-options.ensures)
