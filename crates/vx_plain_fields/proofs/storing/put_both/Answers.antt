use Rattle.std.proofs.Common.{ap, sym, ◌∙◌}
use Rattle.vx_plain.specs.Views.{state_of}
use Rattle.vx_plain_casts.proofs.Laws.{fails, passes}
use Rattle.vx_plain_here.proofs.Comes.{comes_as}
use Rattle.vx_plain_here.specs.Rows.{here_in}
use Rattle.vx_plain_fields.proofs.storing.put_both.Goals as goal

pub returns-then-may_put : goal.returns-then-may_put
returns-then-may_put c =
    let h = here_in c.args.seen.now.here (state_of c.args.state.now) in
    comes_as c.put_in.result _ _ _ _ (passes _ _ _ (sym (c.may_put.ensures) ∙ c.if-may_put.true)) (rw c.cell_of.ensures at c.put_in.ensures)

pub returns-else-may_put : goal.returns-else-may_put
returns-else-may_put c =
    let h = here_in c.args.seen.now.here (state_of c.args.state.now) in
    comes_as c.illegal.result _ _ _ _ (fails _ _ _ (sym (c.may_put.ensures) ∙ c.if-may_put.false)) c.illegal.ensures
