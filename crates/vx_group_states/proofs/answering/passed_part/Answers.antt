use Rattle.std.proofs.lemmas.Result.{IfOk-weaker}
use Rattle.vx_group_states.proofs.answering.passed_part.Goals as goal

pub returns : goal.returns
returns g c =
    IfOk-weaker c.jumped_part.result _ _ (λ r' h'. rw c.top_frame.ensures at (h' c.args.site.now.program.now))
    c.jumped_part.ensures
