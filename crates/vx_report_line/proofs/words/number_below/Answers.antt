use Rattle.std.proofs.Common.{arith, sym, ◌∙◌}
use Rattle.vx_report_line.proofs.Numbers.{narrow_none, narrow_some, narrow_over}
use Rattle.vx_report_line.proofs.words.number_below.Goals as goal

pub returns-in_err-n-clause-value : goal.returns-in_err-n-clause-value
returns-in_err-n-clause-value c = c.from_residual.ensures ∙ sym (narrow_none _ _ _ (omega (arith, c.ranges.bound.fits)) (sym c.in_err-n.ensures))

pub returns-then-n-bound-clause-value : goal.returns-then-n-bound-clause-value
returns-then-n-bound-clause-value c = sym (narrow_some _ _ _ _ c.if-n-bound.true (sym c.in_ok-n.ensures))

pub returns-else-n-bound-clause-value : goal.returns-else-n-bound-clause-value
returns-else-n-bound-clause-value c = sym (narrow_over _ _ _ _ c.if-n-bound.false (sym c.in_ok-n.ensures))
