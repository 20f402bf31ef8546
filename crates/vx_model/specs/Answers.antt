-- How what the code returns is what the definitions say.
use Rattle.std.specs.Prelude.{ℕ, Option, None, Some, Result}
use Rattle.vx_list.specs.Answers as answers
use Rattle.vx_model.specs.Text.{BadLine}
use Rattle.vx_model.specs.declared.fault.ModelFault.{ModelFault}
use Rattle.vx_model.specs.declared.fault.ModelFault.TheVariants as fault
use Rattle.vx_model.specs.declared.statement.Refusal.{Refusal}
use Rattle.vx_model.specs.declared.statement.Refusal.TheVariants as refusal

-- the reason, or none where memory ran out
abbrev pub reason_seen : Refusal → Option ℕ
reason_seen refusal.NoMemory = None
reason_seen (refusal.Reason reason) = Some reason

-- a line is refused for this reason, unless memory ran out
abbrev pub Refuses : {A : Type 0} → Refusal → Result A ℕ → Type 0
Refuses e answer = answers.Fails (reason_seen e) answer

abbrev pub Judges : {A : Type 0} → Result A Refusal → Result A ℕ → Type 0
Judges result answer = answers.Answers reason_seen result answer

-- a line of this number is refused
abbrev pub fault_at : Refusal → ℕ → ModelFault
fault_at refusal.NoMemory line = fault.NoMemory
fault_at (refusal.Reason reason) line = fault.Line line reason

-- the bad line, or none where memory ran out
abbrev pub line_seen : ModelFault → Option BadLine
line_seen fault.NoMemory = None
line_seen (fault.Line line reason) = Some (record { line = line; reason = reason })

-- this is the first bad line, unless memory ran out
abbrev pub Fails : {A : Type 0} → ModelFault → Result A BadLine → Type 0
Fails e answer = answers.Fails (line_seen e) answer

-- what was read is the model of the text
abbrev pub Answers : {A : Type 0} → Result A ModelFault → Result A BadLine → Type 0
Answers result answer = answers.Answers line_seen result answer
