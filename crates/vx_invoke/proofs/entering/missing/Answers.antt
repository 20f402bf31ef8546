use Rattle.std.proofs.lemmas.Result.{IfOk-weaker}
use Rattle.vx_invoke.proofs.entering.missing.Goals as goal

pub returns : goal.returns
returns g c =
    IfOk-weaker c.unsupported.result _ _ (λ r' h'. λ sets. rw c.in_ok-name.ensures at (h' sets))
    c.unsupported.ensures
