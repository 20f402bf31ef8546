use Rattle.vx_cli.proofs.Spellings.{no_stream, two_and_others}
use Rattle.vx_cli.proofs.words.read_output.Goals as goal

pub returns-in_err-stream : goal.returns-in_err-stream
returns-in_err-stream c =
    let words = two_and_others c.args.words.now c.report-item.result c.configuration-item.result c.in-len2-up.len_at_least c.report-item.is c.configuration-item.is in
    rw (c.from_residual.ensures, words) (no_stream _ _ _ c.in_err-stream.ensures)
