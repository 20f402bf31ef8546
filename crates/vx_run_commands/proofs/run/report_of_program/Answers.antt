use Rattle.std.proofs.Common.{sym, ap, ◌∙◌, length}
use Rattle.std.proofs.lemmas.List.{length-map}
use Rattle.vx_model.specs.Models.{is_allowed}
use Rattle.vx_run_commands.proofs.Ran.{reported_run, untold}
use Rattle.vx_run_commands.proofs.run.report_of_program.Goals as goal
use Rattle.vx_lockstep.proofs.Known.{found_known}

pub report_findings-requires-clause-options : goal.report_findings-requires-clause-options
report_findings-requires-clause-options g c = ap length c.in_ok-names.ensures ∙ length-map c.args.model.now.options _ ∙ sym c.requires.modeled.options ∙ sym c.in_ok-findings.ensures.options

pub report_findings-requires-clause-known : goal.report_findings-requires-clause-known
report_findings-requires-clause-known g c = found_known _ _ _ _ _ c.in_ok-findings.ensures.findings

pub returns-clause-text : goal.returns-clause-text
returns-clause-text g c =
    reported_run c.args.words.limit c.args.words.version c.args.model.now c.args.program.now c.in_ok-names.names _ _ _ _ _ c.in_ok-names.ensures
    c.requires.modeled.is_set.test c.in_ok-findings.ensures.options c.in_ok-findings.ensures.findings c.in_ok-findings.ensures.lockstep
    c.requires.reportable
    (c.in_ok-report_findings.ensures.reported c.args.program.now (is_allowed c.args.model.now))

pub returns-in_err-names-clause-told : goal.returns-in_err-names-clause-told
returns-in_err-names-clause-told g c = untold c.args.words.watched (g.E.Sink.seen c.args.err.now)
