use Rattle.vx_plain.specs.Views.{state_of}
use Rattle.vx_plain_here.proofs.Comes.{comes_as}
use Rattle.vx_plain_here.specs.Rows.{here_in}
use Rattle.vx_plain_words.proofs.LocalLaws.{store_none}
use Rattle.vx_plain_words.proofs.locals.store.Goals as goal

pub returns-in-None : goal.returns-in-None
returns-in-None c = comes_as c.illegal.result _ _ _ _ (store_none (here_in c.args.here.now (state_of c.args.state.now)) c.args.sort c.args.place (state_of c.args.state.now).top.operands c.in-None.ensures) c.illegal.ensures
