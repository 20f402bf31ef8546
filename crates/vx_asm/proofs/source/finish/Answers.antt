use Rattle.std.proofs.lemmas.Result.{err_from_is_err_and}
use Rattle.vx_asm.proofs.source.finish.Goals as goal

pub returns-in_err-check_end : goal.returns-in_err-check_end
returns-in_err-check_end c =
    let p = err_from_is_err_and c.from_residual.result c.from_residual.ensures.1 in
    rw (p.1, p.2) c.in_err-check_end.ensures.refused
