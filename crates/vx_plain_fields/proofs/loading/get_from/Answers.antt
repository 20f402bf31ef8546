use Rattle.std.proofs.Common.{drop, sym}
use Rattle.std.specs.Prelude.{◌∷◌}
use Rattle.vx_java.specs.Machine.{cell_at, go}
use Rattle.vx_plain.specs.Views.{state_of}
use Rattle.vx_plain_casts.proofs.Laws.{null_raises, object_goes}
use Rattle.vx_plain_here.proofs.Comes.{comes_as}
use Rattle.vx_plain_here.specs.Rows.{here_in}
use Rattle.vx_plain_fields.proofs.loading.get_from.Goals as goal

pub returns-in-Some : goal.returns-in-Some
returns-in-Some c =
    let h = here_in c.args.seen.now.here (state_of c.args.state.now) in
    comes_as c.load_cell.result _ _ _ _ (object_goes h c.args.object _ (λ r. go h (cell_at h.state r c.args.cell ∷ drop 1 h.state.top.operands)) (sym c.in-Some.ensures)) c.load_cell.ensures

pub returns-in-None : goal.returns-in-None
returns-in-None c =
    let h = here_in c.args.seen.now.here (state_of c.args.state.now) in
    comes_as c.raise.result _ _ _ _ (null_raises h c.args.object (λ r. go h (cell_at h.state r c.args.cell ∷ drop 1 h.state.top.operands)) (sym c.in-None.ensures)) c.raise.ensures
