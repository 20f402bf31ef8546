use Rattle.std.proofs.lemmas.Result.{IfOk-weaker}
use Rattle.vx_fields.proofs.unresolved.ended.Goals as goal

pub returns-in-NoType : goal.returns-in-NoType
returns-in-NoType g c =
    IfOk-weaker c.illegal.result _ _ (λ r' h'. rw c.in-NoType.is (λ sets rest. h' sets))
    c.illegal.ensures

pub returns-in_ok-what-in-Floating : goal.returns-in_ok-what-in-Floating
returns-in_ok-what-in-Floating g c =
    IfOk-weaker c.unsupported.result _ _ (λ r' h'. rw c.in-Floating.is (λ sets rest. rw c.in_ok-what-in-Floating.ensures at (h' sets)))
    c.unsupported.ensures

pub returns-in_ok-what-in-NoClass : goal.returns-in_ok-what-in-NoClass
returns-in_ok-what-in-NoClass g c =
    IfOk-weaker c.unsupported-in-NoClass.result _ _ (λ r' h'. rw c.in-NoClass.is (λ sets rest. rw c.in_ok-what-in-NoClass.ensures at (h' sets)))
    c.unsupported-in-NoClass.ensures

pub returns-in_ok-what-in-NoField : goal.returns-in_ok-what-in-NoField
returns-in_ok-what-in-NoField g c =
    IfOk-weaker c.unsupported-in-NoField.result _ _ (λ r' h'. rw c.in-NoField.is (λ sets rest. rw c.in_ok-what-in-NoField.ensures at (h' sets)))
    c.unsupported-in-NoField.ensures
