-- The text of what a run came to is that of the run.
use Rattle.std.proofs.Common.{◌≡◌, ℕ, List, ap, ◌∙◌, refl}
use Rattle.std.proofs.lemmas.Result.{IfOk-weaker}
use Rattle.std.specs.Global.{Vec}
use Rattle.std.specs.Prelude.{IfOk, Result}
use Rattle.vx_java.specs.Step.{Run}
use Rattle.vx_lines.specs.declared.table.LineTable.{LineTable}
use Rattle.vx_link.specs.declared.program.Program.{Program}
use Rattle.vx_replay.specs.ReplayText.{replay_text, run_lines, text_by}
use Rattle.vx_replay.specs.Replays.{IsReplay}
use Rattle.vx_replay.specs.declared.running.Replay.{Replay}
use Rattle.vx_report.specs.Projection.{projection_text, runs}

shown : (p : Program) (tables : List LineTable) (r : Run) (replay : Replay) → IsReplay r replay → text_by p tables replay ≡ replay_text p tables r
unfolding replay_text run_lines projection_text
shown p tables r replay is = rw (is.longest.same ∙ ap runs is.output, is.end, is.attempts, is.frames) refl

pub text_shown : {E : Type 0} (p : Program) (tables : List LineTable) (r : Run) (replay : Replay) (result : Result (Vec ℕ) E) → IsReplay r replay → IfOk result (λ text. text.items ≡ text_by p tables replay)
    → IfOk result (λ text. text.items ≡ replay_text p tables r)
text_shown p tables r replay result is = IfOk-weaker result (λ text. text.items ≡ text_by p tables replay) (λ text. text.items ≡ replay_text p tables r) (λ text e. e ∙ shown p tables r replay is)
