use Rattle.std.proofs.Common.{◌∙◌, ◌∷◌, [], ap, arith, string_bytes}
use Rattle.std.proofs.lemmas.List.{length-append}
use Rattle.std.proofs.lemmas.Result.{err_from_is_err_and}
use Rattle.vx_plans.proofs.Plans.{stops_behind, keeps_then}
use Rattle.vx_report_reader.specs.Lawful.{IsLawful}
use Rattle.vx_inputs.proofs.Inputs.{all_more, at_report, one_report_more}
use Rattle.vx_inputs.proofs.reports.read_report_files.Goals as goal

pub returns-in_err-report-clause-err : goal.returns-in_err-report-clause-err
returns-in_err-report-clause-err g c =
    let p = err_from_is_err_and c.from_residual.result c.from_residual.ensures.1 in
    rw (p.1, p.2) (λ next. stops_behind _ _ _ _ _ _ c.loop-path.invariant.keeps
    (at_report _ _ next c.args.paths.now c.loop-path.path-index c.path-item.result c.as_str.result.now c.loop-path.found.items c.loop-path-test.true (c.as_str.ensures.value ∙ ap string_bytes c.path-item.is) (c.loop-path.invariant.leads next))
    (c.in_err-report.ensures.err _))

pub loop-path-preserved : goal.loop-path-preserved
loop-path-preserved g c = record {
  leads = λ next. rw c.in_ok-push.ensures.items
      (one_report_more _ _ next c.args.paths.now c.loop-path.path-index c.path-item.result c.as_str.result.now c.loop-path.found.items c.in_ok-report.report c.loop-path-test.true (c.as_str.ensures.value ∙ ap string_bytes c.path-item.is)
      (c.loop-path.invariant.leads next) (λ n. rw c.loop-path.invariant.keeps.held at (c.in_ok-report.ensures.ok n)));
  keeps = keeps_then c.loop-path.invariant.keeps c.in_ok-report.ensures.keeps;
  lawful = rw c.in_ok-push.ensures.items (all_more IsLawful c.loop-path.found.items c.in_ok-report.report c.loop-path.invariant.lawful c.in_ok-report.ensures.lawful);
  count = rw c.in_ok-push.ensures.items (omega (arith, c.loop-path.invariant.count, length-append c.loop-path.found.items (c.in_ok-report.report ∷ [])));
}
