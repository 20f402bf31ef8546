use Rattle.std.proofs.Common.{drop, sym}
use Rattle.vx_plain.specs.Views.{state_of, value_of}
use Rattle.vx_plain_arrays.proofs.Laws.{load_other}
use Rattle.vx_plain_here.proofs.Comes.{comes_as}
use Rattle.vx_plain_here.specs.Rows.{here_in}
use Rattle.vx_plain_arrays.proofs.loading.load_by.Goals as goal

pub returns-in-None : goal.returns-in-None
returns-in-None c =
    let h = here_in c.args.here.now (state_of c.args.state.now) in
    comes_as c.illegal.result _ _ _ _ (load_other h c.args.element h.state.top.operands c.args.index c.requires c.in-None.ensures) c.illegal.ensures
