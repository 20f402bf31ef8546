use Rattle.std.proofs.Common.{ap, sym, ◌∙◌}
use Rattle.vx_plain.specs.Views.{state_of}
use Rattle.vx_plain_here.proofs.Comes.{comes_as}
use Rattle.vx_plain_here.specs.Arguments.{are_on_top}
use Rattle.vx_plain_here.specs.Rows.{here_in}
use Rattle.vx_plain_natives.proofs.Given.{nothing_given, receiver_given, static_given}
use Rattle.vx_plain_natives.proofs.carrying.carry_out.Goals as goal

pub returns-then-not-are_there : goal.returns-then-not-are_there
returns-then-not-are_there c =
    let s = state_of c.args.state.now in
    let there = ap (λ types. are_on_top types s.top.operands) (sym c.requires.types) ∙ sym c.are_there.ensures ∙ c.if-not-are_there.true in
    comes_as c.illegal.result _ _ _ _ (nothing_given (here_in c.args.here.now s) c.args.method.now there) c.illegal.ensures

pub returns-then-is_static : goal.returns-then-is_static
returns-then-is_static c =
    let s = state_of c.args.state.now in
    let there = ap (λ types. are_on_top types s.top.operands) (sym c.requires.types) ∙ sym c.are_there.ensures ∙ c.if-not-are_there.false in
    comes_as c.apply.result _ _ _ _ (static_given (here_in c.args.here.now s) c.args.method.now there (sym c.is_static.ensures ∙ c.if-is_static.true)) (rw c.requires.types at c.apply.ensures)

pub returns-else-is_static : goal.returns-else-is_static
returns-else-is_static c =
    let s = state_of c.args.state.now in
    let there = ap (λ types. are_on_top types s.top.operands) (sym c.requires.types) ∙ sym c.are_there.ensures ∙ c.if-not-are_there.false in
    comes_as c.apply_to.result _ _ _ _ (receiver_given (here_in c.args.here.now s) c.args.method.now there (sym c.is_static.ensures ∙ c.if-is_static.false)) (rw c.requires.types at c.apply_to.ensures)
