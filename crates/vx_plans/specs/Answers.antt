-- What a command gave, in the words of its plan.
use Rattle.std.specs.Prelude.{ℕ, List, Ok, Err}
use Rattle.std.specs.declared.result.Result.{Result}
use Rattle.vx_plans.specs.Plan.{Outcome, Said}
use Rattle.vx_plans.specs.declared.answer.Answer.{Answer}
use Rattle.vx_plans.specs.declared.status.Status.{Status}

-- a text with its status
abbrev pub said_of : Answer → Said
said_of answer = (answer.text.items, answer.last)

-- what a command gave: a text with its status, or a refusal
abbrev pub outcome_of : Result Answer Status → Outcome
outcome_of (Ok answer) = Ok (said_of answer)
outcome_of (Err refusal) = Err refusal
