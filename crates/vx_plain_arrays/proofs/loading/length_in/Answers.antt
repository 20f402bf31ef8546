use Rattle.std.proofs.Common.{drop, sym}
use Rattle.std.specs.Prelude.{pos, ◌∷◌}
use Rattle.vx_java.specs.Machine.{Int, go, object_at}
use Rattle.vx_plain.specs.Views.{state_of, value_of}
use Rattle.vx_plain_casts.proofs.Laws.{null_raises, object_goes}
use Rattle.vx_plain_here.proofs.Comes.{comes_as}
use Rattle.vx_plain_here.specs.Rows.{here_in}
use Rattle.vx_plain_arrays.proofs.loading.length_in.Goals as goal

pub returns-in-Some : goal.returns-in-Some
returns-in-Some c =
    let h = here_in c.args.here.now (state_of c.args.state.now) in
    comes_as c.put_length.result _ _ _ _ (object_goes h c.args.array _ (λ r. go h (Int (pos (object_at h.state r).size) ∷ drop 1 h.state.top.operands)) (sym c.in-Some.ensures)) c.put_length.ensures

pub returns-in-None : goal.returns-in-None
returns-in-None c =
    let h = here_in c.args.here.now (state_of c.args.state.now) in
    comes_as c.raise.result _ _ _ _ (null_raises h c.args.array (λ r. go h (Int (pos (object_at h.state r).size) ∷ drop 1 h.state.top.operands)) (sym c.in-None.ensures)) c.raise.ensures
