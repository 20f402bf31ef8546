use Rattle.std.proofs.Common.{arith, inl, inr, sym, ◌∙◌}
use Rattle.std.proofs.lemmas.Fmt.{decimal_injective}
use Rattle.vx_cli.proofs.words.read_from_one.Goals as goal

pub returns-in_err-n : goal.returns-in_err-n
returns-in_err-n c = rw c.from_residual.ensures (λ n range. c.in_err-n.ensures n (omega (arith, range.1, c.ranges.most.fits)))

pub returns-then-n-eq0 : goal.returns-then-n-eq0
returns-then-n-eq0 c n range is =
    let same = decimal_injective c.in_ok-n.n n c.in_ok-n.ensures.1 (omega (arith, range.1, c.ranges.most.fits)) (sym c.in_ok-n.ensures.0 ∙ is) in
    elim c.then-n-eq0.either [ inl e ↦ omega (arith, same, e, range.0) | inr p ↦ omega (arith, same, p.1, range.1) ]
