use Rattle.std.proofs.Common.{arith, ◌≡◌, sym, ◌∙◌}
use Rattle.vx_words.proofs.Decimals.{same_printed, below_wide}
use Rattle.vx_words.proofs.printed.printed_u64.Goals as goal

pub returns-in_err-n : goal.returns-in_err-n
returns-in_err-n c = rw c.from_residual.ensures (λ n h e. c.in_err-n.ensures n (below_wide n h) e)

pub returns-else-n : goal.returns-else-n
returns-else-n c = λ n h e.
    let same : c.in_ok-n.n ≡ n = same_printed c.in_ok-n.n n c.in_ok-n.ensures.1 (below_wide n h) (sym c.in_ok-n.ensures.0 ∙ e) in
    omega (arith, same, h, c.if-n.false)
