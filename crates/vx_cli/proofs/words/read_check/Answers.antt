use Rattle.vx_cli.proofs.Spellings.{checks, first_word, no_expected}
use Rattle.vx_cli.proofs.words.read_check.Goals as goal

pub returns-in_err-expected : goal.returns-in_err-expected
returns-in_err-expected c =
    let words = first_word c.args.words.now c.report-item.result c.in-len1-up.len_at_least c.report-item.is in
    rw (c.from_residual.ensures, words) (no_expected _ _ c.in_err-expected.ensures)

pub returns : goal.returns
returns c =
    let words = first_word c.args.words.now c.report-item.result c.in-len1-up.len_at_least c.report-item.is in
    rw (words, c.as_str.ensures.value) (checks _ _ _ c.in_ok-expected.ensures)
