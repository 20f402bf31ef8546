use Rattle.std.proofs.Common.{drop}
use Rattle.vx_plain.specs.Views.{state_of}
use Rattle.vx_plain_here.proofs.Comes.{comes_as}
use Rattle.vx_plain_here.specs.Rows.{here_in}
use Rattle.vx_plain_natives.proofs.Numbered.{no_method}
use Rattle.vx_plain_strings.specs.Answers.{listed}
use Rattle.vx_plain_natives.proofs.table.by_number.Goals as goal

pub returns-then-number-gt92 : goal.returns-then-number-gt92
returns-then-number-gt92 c =
    let s = state_of c.args.state.now in
    let call = c.args.call.now in
    comes_as c.illegal-then-number-gt92.result _ _ _ _ (no_method (here_in call.here.now s) (listed call.values) (drop call.taken s.top.operands) c.args.number c.if-number-gt92.true) c.illegal-then-number-gt92.ensures
