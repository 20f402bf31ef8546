use Rattle.vx_java.specs.Step.{start, steps}
use Rattle.vx_replay.proofs.Shown.{text_shown}
use Rattle.vx_replay.proofs.replaying.run_text.Goals as goal

pub returns : goal.returns
returns c =
    let p = c.args.program.now in
    text_shown p c.args.tables.now (steps p c.args.limit (start p c.args.config.now)) c.in_ok-run.run' c.replay_text.result c.in_ok-run.ensures c.replay_text.ensures
