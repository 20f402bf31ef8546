use Rattle.std.proofs.lemmas.Result.{IfOk-weaker}
use Rattle.vx_agree.proofs.Outputs.{IsSameOutput-of}
use Rattle.vx_agree.proofs.output.same_output.Goals as goal

pub returns-clause-same : goal.returns-clause-same
returns-clause-same g c = IfOk-weaker c.all_said.result _ _ (λ r h. IsSameOutput-of c.args.one.now c.args.other.now c.args.start c.in_ok-reached.reached.items r c.in_ok-reached.ensures.behind (rw c.as_slice.ensures.value at h)) c.all_said.ensures.said
