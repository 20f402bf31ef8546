-- How what code returns is what a definition says, where want of memory is the one other answer. The code's fault is seen
-- as the fault of the definition, and want of memory as none.
use Rattle.std.specs.Prelude.{◌≡◌, Option, None, Some, Result, Ok, Err}

-- the definition has this fault, or memory ran out
abbrev pub Fails : {A F : Type 0} → Option F → Result A F → Type 0
Fails None answer = Unit {0}
Fails (Some fault) answer = answer ≡ Err fault

-- the definition has the value that this one is seen as, or this fault, or memory ran out
abbrev pub AnswersBy : {X A E F : Type 0} → (X → A) → (E → Option F) → Result X E → Result A F → Type 0
AnswersBy view seen (Ok x) answer = answer ≡ Ok (view x)
AnswersBy view seen (Err e) answer = Fails (seen e) answer

-- the same where the value is the definition's own
abbrev pub Answers : {A E F : Type 0} → (E → Option F) → Result A E → Result A F → Type 0
Answers seen (Ok x) answer = answer ≡ Ok x
Answers seen (Err e) answer = Fails (seen e) answer
