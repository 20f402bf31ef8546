-- Texts in order, each once: the number of a text is its place among them.
use Rattle.std.specs.Prelude.{◌≡◌, ℕ, ◌<◌, ◌^◌, nat_lt, List, [], ◌∷◌, ◌++◌, length, bytes_eq, if◌then◌else◌}
use Rattle.std.specs.List.{position_or_len}
use Rattle.vx_list.specs.Places.{item_or}

-- the text of a number
abbrev pub text_at : List (List ℕ) → ℕ → List ℕ
text_at texts number = item_or texts number []

-- the number of a text: the place where it stands, or behind the last one where it stands nowhere
abbrev pub number_of : List (List ℕ) → List ℕ → ℕ
number_of texts units = position_or_len (bytes_eq units) texts

-- the texts with one more behind them, unless it is there
abbrev pub with_text : List (List ℕ) → List ℕ → List (List ℕ)
with_text texts units = if nat_lt (number_of texts units) (length texts) then texts else texts ++ units ∷ []

-- different numbers are different texts
abbrev pub AreDistinct : List (List ℕ) → Type 0
AreDistinct texts = (a b : ℕ) → a < length texts → b < length texts → text_at texts a ≡ text_at texts b → a ≡ b

-- an int counts the units of each text
abbrev pub AreShort : List (List ℕ) → Type 0
AreShort texts = (number : ℕ) → length (text_at texts number) < 2 ^ 31

-- a number has a text
pub record IsNumber (texts : List (List ℕ)) (number : ℕ) (units : List ℕ) : Type 0 where
  pub known : number < length texts
  pub text : text_at texts number ≡ units

-- the numbers so far keep their texts
abbrev pub Extends : (before after : List (List ℕ)) → Type 0
Extends before after = (number : ℕ) → number < length before → IsNumber after number (text_at before number)
