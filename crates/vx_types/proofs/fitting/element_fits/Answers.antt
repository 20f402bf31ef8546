use Rattle.std.proofs.Common.{sym, ◌∙◌}
use Rattle.vx_types.proofs.Tests.{or_only, or_second}
use Rattle.vx_types.specs.Fits.{is_below, is_object}
use Rattle.vx_types.proofs.fitting.element_fits.Goals as goal

pub returns-then-is_below : goal.returns-then-is_below
returns-then-is_below c =
    sym
    (or_second (is_object c.args.program.now c.args.other.now) (is_below c.args.program.now c.args.one.now c.args.other.now)
    (sym c.is_below.ensures ∙ c.if-is_below.true))

pub returns : goal.returns
returns c =
    c.is_object.ensures
    ∙ or_only (is_object c.args.program.now c.args.other.now) (is_below c.args.program.now c.args.one.now c.args.other.now)
    (sym c.is_below.ensures ∙ c.if-is_below.false)
