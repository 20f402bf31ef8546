use Rattle.std.proofs.Common.{ap, drop, ◌∙◌}
use Rattle.std.proofs.lemmas.Int.{to_z-of_z}
use Rattle.std.specs.Int.{w32}
use Rattle.vx_plain.specs.Views.{state_of}
use Rattle.vx_plain_here.proofs.Comes.{comes_as}
use Rattle.vx_plain_here.specs.Rows.{here_in}
use Rattle.vx_plain_numbers.proofs.RowLaws.{same_alone, same_there}
use Rattle.vx_plain_numbers.specs.Numbers.{answered, of_same}
use Rattle.vx_plain_numbers.proofs.rows.on_reference.Goals as goal

pub returns-in-Some : goal.returns-in-Some
returns-in-Some c =
    let h = (here_in c.args.here.now (state_of c.args.state.now)) in
    let is = (rw (to_z-of_z w32 c.args.offset c.ranges.offset) at c.of_same-answer.ensures) ∙ ap (of_same c.args.wanted c.args.offset) c.are_one.ensures in
    comes_as c.carry_out.result _ _ _ _ (ap (answered h (drop 2 (state_of c.args.state.now).top.operands)) is ∙ same_there h c.args.wanted c.args.offset (state_of c.args.state.now).top.operands c.args.upper c.in-Some.lower c.requires.upper c.in-Some.ensures) c.carry_out.ensures

pub returns-in-None : goal.returns-in-None
returns-in-None c = comes_as c.illegal.result _ _ _ _ (same_alone (here_in c.args.here.now (state_of c.args.state.now)) c.args.wanted c.args.offset (state_of c.args.state.now).top.operands c.args.upper c.requires.upper c.in-None.ensures) c.illegal.ensures
