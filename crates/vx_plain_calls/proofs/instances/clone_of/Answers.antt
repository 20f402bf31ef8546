use Rattle.std.proofs.Common.{ap, drop, length, sym, ◌∙◌, ◌+◌, ◌∷◌}
use Rattle.vx_java.specs.Machine.{object_at, push_new}
use Rattle.vx_plain.specs.Views.{state_of, value_of, values_of}
use Rattle.vx_plain_casts.proofs.Laws.{null_raises, object_goes}
use Rattle.vx_plain_here.proofs.Comes.{comes_as}
use Rattle.vx_plain_here.specs.Rows.{here_in}
use Rattle.vx_plain_calls.proofs.instances.clone_of.Goals as goal

pub returns-in-Some : goal.returns-in-Some
returns-in-Some c =
    let h = here_in c.args.here.now (state_of c.args.state.now) in
    comes_as c.push_copy.result _ _ _ _ (object_goes h c.args.array _ (λ r. push_new h (object_at h.state r) (drop 1 h.state.top.operands)) (sym c.in-Some.ensures)) c.push_copy.ensures

pub returns-in-None : goal.returns-in-None
returns-in-None c =
    let h = here_in c.args.here.now (state_of c.args.state.now) in
    comes_as c.raise.result _ _ _ _ (null_raises h c.args.array (λ r. push_new h (object_at h.state r) (drop 1 h.state.top.operands)) (sym c.in-None.ensures)) c.raise.ensures
