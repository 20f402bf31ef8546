use Rattle.std.proofs.Common.{drop, sym, ◌∙◌}
use Rattle.vx_plain.specs.Views.{state_of, value_of}
use Rattle.vx_plain_fields.proofs.Laws.{keeps_value, takes_value}
use Rattle.vx_plain_fields.specs.Fields.{found_of}
use Rattle.vx_plain_here.proofs.Comes.{comes_as}
use Rattle.vx_plain_here.specs.Rows.{here_in}
use Rattle.vx_plain_fields.proofs.storing.store_static.Goals as goal

pub returns-then-keeps : goal.returns-then-keeps
returns-then-keeps c =
    let h = here_in c.args.seen.now.here (state_of c.args.state.now) in
    comes_as c.go.result _ _ _ _ (keeps_value h (found_of c.args.found) (value_of c.args.value) (drop 1 h.state.top.operands) (sym c.keeps.ensures ∙ c.if-keeps.true)) c.go.ensures

pub returns-else-keeps : goal.returns-else-keeps
returns-else-keeps c =
    let h = here_in c.args.seen.now.here (state_of c.args.state.now) in
    comes_as c.store.result _ _ _ _ (takes_value h (found_of c.args.found) (value_of c.args.value) (drop 1 h.state.top.operands) (sym c.keeps.ensures ∙ c.if-keeps.false)) c.store.ensures
