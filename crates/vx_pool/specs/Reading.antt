-- Reading from the front to the back, with the first check that fails.
use Rattle.std.specs.Prelude.{◌≡◌, ℕ, zero, suc, List, [], ◌∷◌, ◌++◌, length, take, Bool, Option, None, Some, Result, Ok, Err, nat_le, if◌then◌else◌}
use Rattle.byteorder.specs.Endian.{big_number}
use Rattle.vx_list.specs.Answers as answers
use Rattle.vx_pool.specs.declared.fault.ClassFault.{ClassFault}
use Rattle.vx_pool.specs.declared.fault.ClassFault.TheVariants as fault
use Rattle.vx_pool.specs.Place.{Place, past, file_length}

-- a check that failed: its place in the file, and its reason
pub record Fault : Type 0 where
  pub at : ℕ
  pub reason : ℕ

abbrev pub Read : Type 0 → Type 0
Read A = Result (A × Place) Fault

infixl 10 ◌>>=◌
abbrev pub ◌>>=◌ : {A B : Type 0} → Result A Fault → (A → Result B Fault) → Result B Fault
(Ok x) >>= f = f x
(Err e) >>= f = Err e

abbrev pub refuse : {A : Type 0} → ℕ → ℕ → Result A Fault
refuse at reason = Err (record { at = at; reason = reason })

-- goes on where the test holds
abbrev pub check : {A : Type 0} → Bool → ℕ → ℕ → Result A Fault → Result A Fault
check test at reason next = if test then next else refuse at reason

-- what was read before, and what is read
abbrev pub with_front : {A : Type 0} → List A → Read (List A) → Read (List A)
with_front front read = read >>= λ x. Ok (front ++ x.0, x.1)

-- a number of n bytes, and the place behind it
unfoldable pub number : ℕ → Place → Read ℕ
number n s = check (nat_le n (length s.rest)) (file_length s) 3 (Ok (big_number n s.rest, past n s))

-- n bytes are there
unfoldable pub room : ℕ → Place → Result (Unit {0}) Fault
room n s = check (nat_le n (length s.rest)) (file_length s) 3 (Ok tt)

-- n bytes, and the place behind them
unfoldable pub bytes : ℕ → Place → Read (List ℕ)
bytes n s = check (nat_le n (length s.rest)) (file_length s) 3 (Ok (take n s.rest, past n s))

-- so many steps, one after the other, each from what the steps before it gave
unfoldable pub steps : {A : Type 0} → (A → Place → Read A) → A → ℕ → Place → Read A
steps step x zero s = Ok (x, s)
steps step x (suc n) s = do
  y ← step x s
  steps step y.0 n y.1

-- an item that is read behind those that are there
abbrev pub behind : {A : Type 0} → (List A → Place → Read A) → List A → Place → Read (List A)
behind item front s = item front s >>= λ x. Ok (front ++ x.0 ∷ [], x.1)

-- so many items, one after the other
abbrev pub item_step : {A : Type 0} → (Place → Read A) → List A → Place → Read (List A)
item_step item front s = item s >>= λ x. Ok (front ++ x.0 ∷ [], x.1)

abbrev pub items : {A : Type 0} → (Place → Read A) → ℕ → Place → Read (List A)
items item n s = steps (item_step item) [] n s

-- the check that failed, or none where memory ran out
abbrev pub fault_seen : ClassFault → Option Fault
fault_seen fault.NoMemory = None
fault_seen (fault.Bad at reason) = Some (record { at = at; reason = reason })

-- What a function returned is what reading gives, unless memory ran out: a value, and the place
-- behind it, or the first check that fails.
abbrev pub Fails : {A : Type 0} → ClassFault → Result A Fault → Type 0
Fails e read = answers.Fails (fault_seen e) read

abbrev pub GivesBy : {X A : Type 0} → (X → A) → Result X ClassFault → Place → Read A → Type 0
GivesBy view (Ok x) new read = read ≡ Ok (view x, new)
GivesBy view (Err e) new read = Fails e read

abbrev pub Gives : {A : Type 0} → Result A ClassFault → Place → Read A → Type 0
Gives (Ok x) new read = read ≡ Ok (x, new)
Gives (Err e) new read = Fails e read

-- the same for a check that reads nothing
abbrev pub AnswersBy : {X A : Type 0} → (X → A) → Result X ClassFault → Result A Fault → Type 0
AnswersBy view result answer = answers.AnswersBy view fault_seen result answer

abbrev pub Answers : {A : Type 0} → Result A ClassFault → Result A Fault → Type 0
Answers result answer = answers.Answers fault_seen result answer

-- what a function that reads returns where a value is there to be read: the value, unless memory ran out
abbrev pub IsReadAs : {A : Type 0} → A → Result A ClassFault → Type 0
IsReadAs x (Ok y) = y ≡ x
IsReadAs x (Err fault.NoMemory) = Unit {0}
IsReadAs x (Err (fault.Bad at reason)) = ⊥
