use Rattle.vx_cli.proofs.Spellings.{asks, first_word, no_more}
use Rattle.vx_cli.proofs.words.read_tell.Goals as goal

pub returns-in_err-telling : goal.returns-in_err-telling
returns-in_err-telling c =
    let words = first_word c.args.words.now c.report-item.result c.in-len1-up.len_at_least c.report-item.is in
    rw (c.from_residual.ensures, words) (no_more c.args.telling _ _ c.in_err-telling.ensures)

pub returns : goal.returns
returns c =
    let words = first_word c.args.words.now c.report-item.result c.in-len1-up.len_at_least c.report-item.is in
    rw (words, c.as_str.ensures.value) (asks c.args.telling c.in_ok-telling.telling _ _ c.in_ok-telling.ensures.0 c.in_ok-telling.ensures.1 c.in_ok-telling.ensures.2)
