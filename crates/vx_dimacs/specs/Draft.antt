-- A DIMACS text that is being read.
use Rattle.std.specs.Prelude.{◌≡◌, ℕ, List, Option, Some, None, Result, Ok, Err}
use Rattle.std.specs.Global.{Vec}
use Rattle.vx_model.specs.declared.statement.Refusal.{Refusal}
use Rattle.vx_model.specs.declared.statement.Refusal.TheVariants as refusal
use Rattle.vx_model.specs.Answers.{Refuses}
use Rattle.vx_dimacs.specs.declared.number.Mark.{Mark}
use Rattle.vx_dimacs.specs.declared.draft.Draft.{Draft}
use Rattle.vx_dimacs.specs.Dimacs.{State}

-- the numbers of a line, or reason 8
abbrev pub MarksAre : Result (Vec Mark) Refusal → Option (List Mark) → Type 0
MarksAre (Ok v) marks = marks ≡ Some v.items
MarksAre (Err refusal.NoMemory) marks = Unit {0}
MarksAre (Err (refusal.Reason reason)) marks = (marks ≡ None) × (reason ≡ 8)

-- what the lines so far said
abbrev pub drafted : Draft → State
drafted draft = record {
  header = draft.header;
  variables = draft.variables.items;
  names = draft.names.items;
  rules = draft.rules.items;
  literals = draft.literals.items;
}

-- the state after a line, or the reason why it is refused
abbrev pub Moves : Result (Unit {0}) Refusal → State → Result State ℕ → Type 0
Moves (Ok x) new answer = answer ≡ Ok new
Moves (Err e) new answer = Refuses e answer
