use Rattle.std.proofs.Common.{ap, sym, ◌∙◌}
use Rattle.vx_plain.specs.Views.{state_of}
use Rattle.vx_plain_casts.proofs.Laws.{fails, passes}
use Rattle.vx_plain_here.proofs.Comes.{comes_as}
use Rattle.vx_plain_here.specs.Rows.{here_in}
use Rattle.vx_plain_fields.proofs.loading.get_of.Goals as goal

pub returns-then-may_get : goal.returns-then-may_get
returns-then-may_get c =
    let h = here_in c.args.seen.now.here (state_of c.args.state.now) in
    comes_as c.get_from.result _ _ _ _ (passes _ _ _ (sym (c.may_get.ensures) ∙ c.if-may_get.true)) (rw c.cell_of.ensures at c.get_from.ensures)

pub returns-else-may_get : goal.returns-else-may_get
returns-else-may_get c =
    let h = here_in c.args.seen.now.here (state_of c.args.state.now) in
    comes_as c.illegal.result _ _ _ _ (fails _ _ _ (sym (c.may_get.ensures) ∙ c.if-may_get.false)) c.illegal.ensures
