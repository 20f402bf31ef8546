use Rattle.std.proofs.Common.{subst, sym}
use Rattle.std.specs.Prelude.{IfOk}
use Rattle.vx_java.specs.Step.{Run, steps}
use Rattle.vx_plain.specs.Views.{state_of}
use Rattle.vx_plain_start.specs.Beginning.{started}
use Rattle.vx_replay.proofs.Steps.{ended_at_start}
use Rattle.vx_replay.specs.Replays.{IsReplay}
use Rattle.vx_replay.proofs.running.run_by.Goals as goal

pub returns-in-Some : goal.returns-in-Some
returns-in-Some c =
    let p = c.args.program.now in
    let s = state_of c.args.state.now in
    let over = rw c.in-Some.is at c.in_ok-begun.ensures in
    ended_at_start p c.args.limit (started p s) s c.in-Some.end c.over_at_start.result over c.over_at_start.ensures.pieces c.over_at_start.ensures.end c.over_at_start.ensures.attempts c.over_at_start.ensures.frames

pub returns-in-None : goal.returns-in-None
returns-in-None c =
    let live = rw c.in-None.is at c.in_ok-begun.ensures in
    subst (λ (r : Run). IfOk c.go_on.result (IsReplay (steps c.args.program.now c.args.limit r))) (sym live) c.go_on.ensures
