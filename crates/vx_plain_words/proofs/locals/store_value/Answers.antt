use Rattle.std.proofs.Common.{refl, sym, ◌∙◌}
use Rattle.vx_java.specs.Locals.{locals_with, with_locals}
use Rattle.vx_plain.specs.Views.{state_of, value_of}
use Rattle.vx_plain_here.proofs.Comes.{comes_as, comes_from}
use Rattle.vx_plain_here.specs.Rows.{here_in}
use Rattle.vx_plain_words.proofs.LocalLaws.{store_other, store_there}
use Rattle.vx_plain_words.proofs.locals.store_value.Goals as goal

pub returns-then-is_of : goal.returns-then-is_of
returns-then-is_of c =
    let s = state_of c.args.state.now in
    let comes = rw c.put.ensures at c.go.ensures in
    comes_as c.go.result _ _ _ _ (store_there (here_in c.args.here.now s) c.args.sort c.args.place s.top.operands (value_of c.args.value) c.requires (sym c.is_of.ensures ∙ c.if-is_of.true))
    (comes_from c.go.result _ s (with_locals s (locals_with s.top.locals c.args.place (value_of c.args.value))) _ refl comes)

pub returns-else-is_of : goal.returns-else-is_of
returns-else-is_of c =
    let s = state_of c.args.state.now in
    comes_as c.illegal.result _ _ _ _ (store_other (here_in c.args.here.now s) c.args.sort c.args.place s.top.operands (value_of c.args.value) c.requires (sym c.is_of.ensures ∙ c.if-is_of.false)) c.illegal.ensures
