use Rattle.std.proofs.Common.{ap, drop, ◌∙◌}
use Rattle.vx_plain.specs.Views.{state_of}
use Rattle.vx_plain_here.proofs.Comes.{comes_as}
use Rattle.vx_plain_here.specs.Rows.{here_in}
use Rattle.vx_plain_numbers.proofs.RowLaws.{two_alone, two_there}
use Rattle.vx_plain_numbers.specs.Numbers.{answered}
use Rattle.vx_plain_numbers.proofs.rows.on_second.Goals as goal

pub returns-in-Some : goal.returns-in-Some
returns-in-Some c =
    let h = (here_in c.args.here.now (state_of c.args.state.now)) in
    comes_as c.carry_out.result _ _ _ _ (ap (answered h (drop 2 (state_of c.args.state.now).top.operands)) c.of_two.ensures ∙ two_there h c.args.operation (state_of c.args.state.now).top.operands c.args.upper c.in-Some.lower c.requires.two c.requires.upper c.in-Some.ensures) c.carry_out.ensures

pub returns-in-None : goal.returns-in-None
returns-in-None c = comes_as c.illegal.result _ _ _ _ (two_alone (here_in c.args.here.now (state_of c.args.state.now)) c.args.operation (state_of c.args.state.now).top.operands c.args.upper c.requires.two c.requires.upper c.in-None.ensures) c.illegal.ensures
