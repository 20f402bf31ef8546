use Rattle.std.proofs.Common.{subst}
use Rattle.vx_java.specs.Machine.{State}
use Rattle.vx_java.specs.Step.{steps}
use Rattle.vx_plain_start.specs.Beginning.{started}
use Rattle.vx_replay.specs.Replays.{IsReplay}
use Rattle.vx_replay.proofs.running.run_alone.Goals as goal

pub returns : goal.returns
returns c = subst (λ (s : State). IsReplay (steps c.args.program.now c.args.limit (started c.args.program.now s)) c.in_ok-run_from.field-0) c.in_ok-state.ensures c.in_ok-run_from.ensures
