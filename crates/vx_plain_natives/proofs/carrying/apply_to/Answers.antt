use Rattle.std.proofs.Common.{length, reverse, sym, take, ◌∙◌}
use Rattle.vx_plain.specs.Views.{state_of, value_of}
use Rattle.vx_plain_here.proofs.Comes.{comes_as}
use Rattle.vx_plain_here.specs.Rows.{here_in}
use Rattle.vx_plain_natives.proofs.Given.{receiver_missing, receiver_there, receiver_wrong}
use Rattle.vx_plain_natives.proofs.carrying.apply_to.Goals as goal

pub returns-then-is_instance : goal.returns-then-is_instance
returns-then-is_instance c =
    let s = state_of c.args.state.now in
    let n = length c.args.types.now in
    comes_as c.apply.result _ _ _ _ (receiver_there (here_in c.args.here.now s) c.args.method.now (reverse (take n s.top.operands)) s.top.operands n (value_of c.in-Some.receiver) c.in-Some.ensures (sym c.is_instance.ensures ∙ c.if-is_instance.true)) c.apply.ensures

pub returns-else-is_instance : goal.returns-else-is_instance
returns-else-is_instance c =
    let s = state_of c.args.state.now in
    let n = length c.args.types.now in
    comes_as c.illegal.result _ _ _ _ (receiver_wrong (here_in c.args.here.now s) c.args.method.now (reverse (take n s.top.operands)) s.top.operands n (value_of c.in-Some.receiver) c.in-Some.ensures (sym c.is_instance.ensures ∙ c.if-is_instance.false)) c.illegal.ensures

pub returns-in-None : goal.returns-in-None
returns-in-None c =
    let s = state_of c.args.state.now in
    let n = length c.args.types.now in
    comes_as c.illegal-in-None.result _ _ _ _ (receiver_missing (here_in c.args.here.now s) c.args.method.now (reverse (take n s.top.operands)) s.top.operands n c.in-None.ensures) c.illegal-in-None.ensures
