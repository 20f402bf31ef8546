use Rattle.vx_plain.specs.Views.{state_of}
use Rattle.vx_plain_here.proofs.Comes.{comes_as}
use Rattle.vx_plain_here.specs.Rows.{here_in}
use Rattle.vx_plain_words.proofs.FormLaws.{lower_missing}
use Rattle.vx_plain_words.proofs.forms.under_upper.Goals as goal

pub returns-in-None : goal.returns-in-None
returns-in-None c = comes_as c.illegal.result _ _ _ _ (lower_missing (here_in c.args.here.now (state_of c.args.state.now)) c.args.form c.lower_words.result c.args.upper c.lower_words.ensures.words c.requires (rw c.count.ensures.count at c.in-None.ensures)) c.illegal.ensures
