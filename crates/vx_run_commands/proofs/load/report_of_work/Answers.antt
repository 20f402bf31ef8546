use Rattle.std.proofs.Common.{sym, ap, ◌∙◌, length}
use Rattle.std.proofs.lemmas.List.{length-map}
use Rattle.vx_lockstep.proofs.Known.{found_known}
use Rattle.vx_model.specs.Models.{is_allowed}
use Rattle.vx_run_commands.proofs.Loaded.{found_is_report}
use Rattle.vx_run_commands.proofs.load.report_of_work.Goals as goal

pub found_report-requires-clause-options : goal.found_report-requires-clause-options
found_report-requires-clause-options c = ap length c.in_ok-names.ensures ∙ length-map c.args.modeled.model.options _ ∙ sym c.requires.modeled.options ∙ sym c.in_ok-findings.ensures.options

pub found_report-requires-clause-known : goal.found_report-requires-clause-known
found_report-requires-clause-known c = found_known _ _ _ _ _ c.in_ok-findings.ensures.findings

pub returns : goal.returns
returns c =
    found_is_report 1000000 1 c.args.modeled.model c.args.program.now c.in_ok-names.names _ _ _ _ _ c.in_ok-names.ensures
    c.requires.modeled.is_set.test c.in_ok-findings.ensures.options c.in_ok-findings.ensures.findings (c.in_ok-findings.ensures.lockstep (λ keys place h. h))
    c.requires.reportable
    (c.in_ok-found_report.ensures c.args.program.now (is_allowed c.args.modeled.model))
