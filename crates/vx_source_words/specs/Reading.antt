-- What a line of a source gives: a value, or the least reason for which it is refused.
use Rattle.std.specs.Prelude.{ℕ, zero, suc, Bool, Option, None, Some, Result, Ok, Err, if◌then◌else◌}
use Rattle.vx_list.specs.Answers as answers
use Rattle.vx_source_words.specs.declared.fault.LineFault.{LineFault}
use Rattle.vx_source_words.specs.declared.fault.LineFault.TheVariants as fault

-- a value, or a reason: 1 an unknown word or byte, 2 wrong operands, 3 a number out of range
abbrev pub Read : Type 0 → Type 0
Read A = Result A ℕ

infixl 10 ◌>>=◌
abbrev pub ◌>>=◌ : {A B : Type 0} → Read A → (A → Read B) → Read B
(Ok x) >>= f = f x
(Err e) >>= f = Err e

-- goes on where the test holds
abbrev pub check : {A : Type 0} → Bool → ℕ → Read A → Read A
check test reason next = if test then next else Err reason

-- so many steps, one after the other
unfoldable pub steps : {A : Type 0} → (A → Read A) → A → ℕ → Read A
steps step x zero = Ok x
steps step x (suc n) = do
  y ← step x
  steps step y n

-- the reason, or none where memory ran out
abbrev pub reason_seen : LineFault → Option ℕ
reason_seen fault.NoMemory = None
reason_seen (fault.Refused reason) = Some reason

-- What a function returned is what reading gives, unless memory ran out.
abbrev pub Fails : {A : Type 0} → LineFault → Read A → Type 0
Fails e read = answers.Fails (reason_seen e) read

abbrev pub GivesBy : {X A : Type 0} → (X → A) → Result X LineFault → Read A → Type 0
GivesBy view result read = answers.AnswersBy view reason_seen result read

abbrev pub Gives : {A : Type 0} → Result A LineFault → Read A → Type 0
Gives result read = answers.Answers reason_seen result read
