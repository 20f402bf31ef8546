use Rattle.std.proofs.lemmas.Result.{IfOk-weaker}
use Rattle.vx_group_states.proofs.answering.answered_part.Goals as goal

pub returns-in-Illegal-clause-gives : goal.returns-in-Illegal-clause-gives
returns-in-Illegal-clause-gives g c =
    IfOk-weaker c.illegal.result _ _ (λ r' h'. rw c.in-Illegal.is (λ heap q. h' _ heap))
    c.illegal.ensures

pub returns-in-Raise-clause-gives : goal.returns-in-Raise-clause-gives
returns-in-Raise-clause-gives g c =
    IfOk-weaker c.raised_part.result _ _ (λ r' h'. rw c.in-Raise.is (λ heap q. h' _ _ heap q))
    c.raised_part.ensures

pub returns-in-Push-clause-gives : goal.returns-in-Push-clause-gives
returns-in-Push-clause-gives g c =
    IfOk-weaker c.pushed_part.result _ _ (λ r' h'. rw c.in-Push.is (λ heap q. h' heap q))
    c.pushed_part.ensures.gives

pub returns-in-Jump-clause-gives : goal.returns-in-Jump-clause-gives
returns-in-Jump-clause-gives g c =
    IfOk-weaker c.jumped_part.result _ _ (λ r' h'. rw c.in-Jump.is (λ heap q. h' _ heap))
    c.jumped_part.ensures

pub returns-in-Pass-clause-gives : goal.returns-in-Pass-clause-gives
returns-in-Pass-clause-gives g c =
    IfOk-weaker c.passed_part.result _ _ (λ r' h'. rw c.in-Pass.is (λ heap q. h' heap))
    c.passed_part.ensures

pub returns-in-Give-clause-gives : goal.returns-in-Give-clause-gives
returns-in-Give-clause-gives g c =
    IfOk-weaker c.given_part.result _ _ (λ r' h'. rw c.in-Give.is (λ heap q. h' heap q))
    c.given_part.ensures.gives

pub returns-in-Write-clause-gives : goal.returns-in-Write-clause-gives
returns-in-Write-clause-gives g c =
    IfOk-weaker c.written_part.result _ _ (λ r' h'. rw c.in-Write.is (λ heap q. h' heap q))
    c.written_part.ensures

pub returns-in-Exit-clause-gives : goal.returns-in-Exit-clause-gives
returns-in-Exit-clause-gives g c =
    IfOk-weaker c.ended_part.result _ _ (λ r' h'. rw c.in-Exit.is (λ heap q. (rw (c.end_of.ensures, c.in-Exit.is) at h') _ _ heap))
    c.ended_part.ensures

pub returns-in-Throw-clause-gives : goal.returns-in-Throw-clause-gives
returns-in-Throw-clause-gives g c =
    IfOk-weaker c.thrown_part.result _ _ (λ r' h'. rw c.in-Throw.is (λ heap q. h' _ heap q))
    c.thrown_part.ensures.gives
