use Rattle.std.proofs.Common.{ap, drop, ◌∙◌}
use Rattle.vx_plain.specs.Views.{state_of}
use Rattle.vx_plain_here.proofs.Comes.{comes_as}
use Rattle.vx_plain_here.specs.Rows.{here_in}
use Rattle.vx_plain_numbers.proofs.RowLaws.{one_missing, one_there}
use Rattle.vx_plain_numbers.specs.Numbers.{answered, of_one}
use Rattle.vx_plain_numbers.proofs.rows.row_of_one.Goals as goal

pub returns-in-Some : goal.returns-in-Some
returns-in-Some c =
    let h = (here_in c.args.here.now (state_of c.args.state.now)) in
    let is = c.of_one.ensures ∙ ap (λ code. of_one code c.args.operation c.in-Some.operand) c.as_slice-code.ensures in
    comes_as c.carry_out.result _ _ _ _ (ap (answered h (drop 1 (state_of c.args.state.now).top.operands)) is ∙ one_there h c.args.operation (state_of c.args.state.now).top.operands c.in-Some.operand c.requires.one c.in-Some.ensures) c.carry_out.ensures

pub returns-in-None : goal.returns-in-None
returns-in-None c = comes_as c.illegal.result _ _ _ _ (one_missing (here_in c.args.here.now (state_of c.args.state.now)) c.args.operation (state_of c.args.state.now).top.operands c.requires.one c.in-None.ensures) c.illegal.ensures
