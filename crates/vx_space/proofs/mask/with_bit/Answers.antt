use Rattle.std.proofs.Common.{◌∙◌, sym, ap, true, arith}
use Rattle.vx_space.specs.Mask.{with_bit}
use Rattle.vx_space.proofs.MaskBits.{with_bit-on, with_bit-off, with_bit-lt}
use Rattle.vx_space.proofs.mask.with_bit.Goals as goal

pub returns-then-on-clause-value : goal.returns-then-on-clause-value
returns-then-on-clause-value c = with_bit-on c.args.k c.args.i (omega (arith, c.requires.bit)) ∙ ap (with_bit c.args.k c.args.i) (sym c.if-on.true)

pub returns-then-on-clause-below : goal.returns-then-on-clause-below
returns-then-on-clause-below c = rw (with_bit-on c.args.k c.args.i (omega (arith, c.requires.bit))) (with_bit-lt 6 c.args.k c.args.i true c.requires.number c.requires.bit)

pub returns-else-on-clause-value : goal.returns-else-on-clause-value
returns-else-on-clause-value c = with_bit-off c.args.k c.args.i (omega (arith, c.requires.bit)) c.ranges.k.fits ∙ ap (with_bit c.args.k c.args.i) (sym c.if-on.false)
