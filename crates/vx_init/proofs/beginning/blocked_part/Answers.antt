use Rattle.std.proofs.lemmas.Result.{IfOk-weaker}
use Rattle.vx_init.proofs.beginning.blocked_part.Goals as goal

pub returns : goal.returns
returns g c = IfOk-weaker c.unsupported.result _ _ (λ r gives sets. rw (c.in_ok-what.ensures, c.name_of_class.ensures) at (gives sets)) c.unsupported.ensures
