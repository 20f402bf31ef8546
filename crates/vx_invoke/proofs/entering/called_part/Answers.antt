use Rattle.std.proofs.lemmas.Result.{IfOk-weaker}
use Rattle.vx_invoke.proofs.entering.called_part.Goals as goal

pub returns-in-Illegal-clause-gives : goal.returns-in-Illegal-clause-gives
returns-in-Illegal-clause-gives g c =
    IfOk-weaker c.illegal.result _ _ (λ r' h'. rw c.in-Illegal.is (λ heap h s. h' _ heap _ h s))
    c.illegal.ensures

pub returns-in-Null-clause-gives : goal.returns-in-Null-clause-gives
returns-in-Null-clause-gives g c =
    IfOk-weaker c.raised.result _ _ (λ r' h'. rw c.in-Null.is (λ heap h s. h' _ heap _ h s))
    c.raised.ensures

pub returns-in-WrongKind-clause-gives : goal.returns-in-WrongKind-clause-gives
returns-in-WrongKind-clause-gives g c =
    IfOk-weaker c.raised-in-WrongKind.result _ _ (λ r' h'. rw c.in-WrongKind.is (λ heap h s. h' _ heap _ h s))
    c.raised-in-WrongKind.ensures

pub returns-in-Abstract-clause-gives : goal.returns-in-Abstract-clause-gives
returns-in-Abstract-clause-gives g c =
    IfOk-weaker c.raised-in-Abstract.result _ _ (λ r' h'. rw c.in-Abstract.is (λ heap h s. h' _ heap _ h s))
    c.raised-in-Abstract.ensures

pub returns-in-Missing-clause-gives : goal.returns-in-Missing-clause-gives
returns-in-Missing-clause-gives g c =
    IfOk-weaker c.missing.result _ _ (λ r' h'. rw c.in-Missing.is (λ heap h s. h' _ heap _ h s))
    c.missing.ensures

pub returns-in-Native-clause-gives : goal.returns-in-Native-clause-gives
returns-in-Native-clause-gives g c =
    IfOk-weaker c.native.result _ _ (λ r' h'. rw c.in-Native.is (λ heap h s. h' _ _ heap _ h s))
    c.native.ensures

pub enter-requires-clause-enter : goal.enter-requires-clause-enter
enter-requires-clause-enter g c = rw c.in-Enter.is at c.requires.enter

pub returns-in_ok-made-in-Enter-clause-gives : goal.returns-in_ok-made-in-Enter-clause-gives
returns-in_ok-made-in-Enter-clause-gives g c = rw c.in-Enter.is c.in_ok-made-in-Enter.ensures.gives
