use Rattle.std.proofs.Common.{ap, sym, ◌∙◌}
use Rattle.vx_plain.specs.Views.{state_of}
use Rattle.vx_plain_casts.proofs.Laws.{fails, passes}
use Rattle.vx_plain_here.proofs.Comes.{comes_as}
use Rattle.vx_plain_here.specs.Rows.{here_in}
use Rattle.vx_plain_fields.proofs.storing.put_value.Goals as goal

pub returns-then-fits : goal.returns-then-fits
returns-then-fits c =
    let h = here_in c.args.seen.now.here (state_of c.args.state.now) in
    comes_as c.put_ready.result _ _ _ _ (passes _ _ _ (sym (c.fits.ensures) ∙ c.if-fits.true)) c.put_ready.ensures

pub returns-else-fits : goal.returns-else-fits
returns-else-fits c =
    let h = here_in c.args.seen.now.here (state_of c.args.state.now) in
    comes_as c.illegal.result _ _ _ _ (fails _ _ _ (sym (c.fits.ensures) ∙ c.if-fits.false)) c.illegal.ensures
