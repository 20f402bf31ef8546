use Rattle.std.proofs.Common.{sym, ◌∙◌}
use Rattle.vx_plain.specs.Views.{state_of, value_of}
use Rattle.vx_plain_here.proofs.Comes.{comes_as}
use Rattle.vx_plain_here.specs.Rows.{here_in}
use Rattle.vx_plain_words.proofs.LocalLaws.{load_other, load_there}
use Rattle.vx_plain_words.proofs.locals.load.Goals as goal

pub returns-then-is_of : goal.returns-then-is_of
returns-then-is_of c =
    comes_as c.push.result _ _ _ _ (load_there (here_in c.args.here.now (state_of c.args.state.now)) c.args.sort c.args.place (value_of c.local-value.result) c.local-value.ensures (sym c.is_of.ensures ∙ c.if-is_of.true)) c.push.ensures

pub returns-else-is_of : goal.returns-else-is_of
returns-else-is_of c =
    comes_as c.illegal.result _ _ _ _ (load_other (here_in c.args.here.now (state_of c.args.state.now)) c.args.sort c.args.place (value_of c.local-value.result) c.local-value.ensures (sym c.is_of.ensures ∙ c.if-is_of.false)) c.illegal.ensures
