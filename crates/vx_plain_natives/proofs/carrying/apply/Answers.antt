use Rattle.std.proofs.Common.{ap, drop, sym, ◌∙◌}
use Rattle.std.specs.Prelude.{option_map}
use Rattle.vx_plain.specs.Views.{state_of}
use Rattle.vx_plain_here.proofs.Comes.{comes_as}
use Rattle.vx_plain_here.specs.Rows.{here_in}
use Rattle.vx_plain_natives.proofs.Given.{applied_to}
use Rattle.vx_plain_strings.specs.Answers.{listed}
use Rattle.vx_plain_natives.proofs.carrying.apply.Goals as goal

pub returns-in-Some : goal.returns-in-Some
returns-in-Some c =
    let s = state_of c.args.state.now in
    comes_as c.do_native.result _ _ _ _ (applied_to (here_in c.args.here.now s) c.args.method.now (listed c.args.receiver) _ (drop c.args.taken s.top.operands) (ap (option_map listed) (sym c.in-Some.is) ∙ c.in_ok-read.ensures)) c.do_native.ensures

pub returns-in-None : goal.returns-in-None
returns-in-None c =
    let s = state_of c.args.state.now in
    comes_as c.illegal.result _ _ _ _ (applied_to (here_in c.args.here.now s) c.args.method.now (listed c.args.receiver) _ (drop c.args.taken s.top.operands) (ap (option_map listed) (sym c.in-None.is) ∙ c.in_ok-read.ensures)) c.illegal.ensures
