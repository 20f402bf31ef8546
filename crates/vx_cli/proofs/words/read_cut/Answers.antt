use Rattle.std.proofs.Common.{sym, ◌∙◌}
use Rattle.vx_cut_command.specs.Words.{choice_of}
use Rattle.vx_cli.proofs.Spellings.{cuts, no_chosen, no_model_report, two_and_others}
use Rattle.vx_cli.proofs.words.read_cut.Goals as goal

pub returns-in_err-chosen : goal.returns-in_err-chosen
returns-in_err-chosen c =
    let words = two_and_others c.args.words.now c.model-item.result c.chosen-item.result c.in-len2-up.len_at_least c.model-item.is c.chosen-item.is in
    rw (c.from_residual.ensures, words) (no_chosen _ _ _ (rw c.as_str.ensures.value at c.in_err-chosen.ensures))

pub returns-in_err-report : goal.returns-in_err-report
returns-in_err-report c =
    let words = two_and_others c.args.words.now c.model-item.result c.chosen-item.result c.in-len2-up.len_at_least c.model-item.is c.chosen-item.is in
    rw (c.from_residual-in_err-report.ensures, words) (no_model_report _ _ _ c.in_err-report.ensures)

pub returns : goal.returns
returns c =
    let words = two_and_others c.args.words.now c.model-item.result c.chosen-item.result c.in-len2-up.len_at_least c.model-item.is c.chosen-item.is in
    rw (words, c.as_str-2.ensures.value) (cuts _ _ _ (choice_of c.in_ok-chosen.chosen) _ c.in_ok-chosen.ensures.0 (sym c.as_str.ensures.value ∙ c.in_ok-chosen.ensures.1) c.in_ok-report.ensures)
