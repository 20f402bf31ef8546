use Rattle.vx_plain.specs.Views.{state_of, value_of}
use Rattle.vx_plain_words.proofs.LocalLaws.{written}
use Rattle.vx_plain_words.proofs.locals.put.Goals as goal

pub returns : goal.returns
returns c = rw (c.close.ensures, c.set_local.ensures, c.without_half.ensures) (written (state_of c.args.state.now) c.args.place (value_of c.args.value))
