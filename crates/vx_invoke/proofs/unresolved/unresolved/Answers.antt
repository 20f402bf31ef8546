use Rattle.std.proofs.lemmas.Result.{IfOk-weaker}
use Rattle.vx_invoke.proofs.unresolved.unresolved.Goals as goal

pub returns-in_ok-name-in-NoClass : goal.returns-in_ok-name-in-NoClass
returns-in_ok-name-in-NoClass g c = rw c.in-NoClass.is (IfOk-weaker c.unsupported.result _ _ (λ r gives mode sets. rw c.in_ok-name-in-NoClass.ensures at (gives sets)) c.unsupported.ensures)

pub returns-in_ok-name-in-NoMethod : goal.returns-in_ok-name-in-NoMethod
returns-in_ok-name-in-NoMethod g c = rw c.in-NoMethod.is (IfOk-weaker c.unsupported-in-NoMethod.result _ _ (λ r gives mode sets. rw c.in_ok-name-in-NoMethod.ensures at (gives sets)) c.unsupported-in-NoMethod.ensures)

pub returns-in-WrongKind : goal.returns-in-WrongKind
returns-in-WrongKind g c = rw c.in-WrongKind.is (IfOk-weaker c.raised.result _ _ (λ r gives mode sets. gives sets) c.raised.ensures)
