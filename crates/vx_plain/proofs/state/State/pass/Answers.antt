use Rattle.std.proofs.Common.{ap, drop, ◌+◌, ◌≡◌, ◌∙◌}
use Rattle.vx_java.specs.Machine.{at_position}
use Rattle.vx_plain.proofs.Found.{some_is}
use Rattle.vx_plain.specs.Views.{state_of}
use Rattle.vx_plain.proofs.state.State.pass.Goals as goal

pub returns-clause-ok : goal.returns-clause-ok
returns-clause-ok c =
    let s = state_of c.args.self.now in
    let behind = some_is (λ position. position ≡ s.top.position + c.args.size) _ c.in_ok-position.position c.in_ok-position.ensures.value c.position_behind.ensures in
    c.go_to.ensures ∙ ap (λ position. at_position s position (drop c.args.taken s.top.operands)) behind
