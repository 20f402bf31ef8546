use Rattle.std.proofs.Common.{arith}
use Rattle.vx_cli.proofs.Spellings.{five_words, no_retell_limit}
use Rattle.vx_cli.proofs.words.read_retell.Goals as goal

pub returns-in_err-limit : goal.returns-in_err-limit
returns-in_err-limit c =
    let words = five_words c.args.words.now c.folder-item.result c.model-item.result c.main-item.result c.limit-item.result c.configuration-item.result (omega (arith, c.in-len5.len_at_least, c.in-len5.len_below)) c.folder-item.is c.model-item.is c.main-item.is c.limit-item.is c.configuration-item.is in
    rw (c.from_residual.ensures, words) (no_retell_limit c.args.retelling _ _ _ _ _ (rw c.as_str.ensures.value at c.in_err-limit.ensures))
