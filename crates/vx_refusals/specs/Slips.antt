-- What is often written in the place of a model's own words (own).
use Rattle.std.specs.List.{list_any, starts_with}
use Rattle.std.specs.Prelude.{Bool, List, [], bytes_eq, codes, false, if◌then◌else◌, nat_eq, ℕ, ◌&&◌, ◌++◌, ◌==◌, ◌||◌, ◌∷◌}
use Rattle.vx_words.specs.Lines.{words}
use Rattle.vx_words.specs.Names.{is_word_byte}

-- a sign stands somewhere in a line
abbrev pub has_sign : (sign line : List ℕ) → Bool
has_sign sign [] = false
has_sign sign (b ∷ bs) = starts_with nat_eq (b ∷ bs) sign || has_sign sign bs

unfoldable pub has_quote : List ℕ → Bool
has_quote line = has_sign (codes "\"") line || has_sign (codes "'") line

-- a minus between two bytes of words, as in STUDENT-PRICE
abbrev pub is_minus : List ℕ → Bool
is_minus (first ∷ minus ∷ last ∷ rest) = is_word_byte first && ((minus == 45) && is_word_byte last)
is_minus _ = false

abbrev pub has_minus : List ℕ → Bool
has_minus [] = false
has_minus (b ∷ bs) = is_minus (b ∷ bs) || has_minus bs

-- a word is one of some words
unfoldable pub has_word : (word : List ℕ) → List (List ℕ) → Bool
has_word word all = list_any (λ w. bytes_eq w word) all

unfoldable pub advice : Bool → List ℕ → List ℕ
advice asked text = if asked then codes "slip: " ++ text ++ codes "\n" else []

-- operators that are written twice
unfoldable pub doubled_text : List ℕ → List ℕ
doubled_text line =
    advice (has_sign (codes "&&") line) (codes "&& is written &") ++ advice (has_sign (codes "||") line) (codes "|| is written |")

-- operators that are written as words
unfoldable pub worded_text : List ℕ → List ℕ
worded_text line =
    advice (has_word (codes "and") (words line)) (codes "and is written &")
    ++ advice (has_word (codes "or") (words line)) (codes "or is written |")
    ++ advice (has_word (codes "not") (words line)) (codes "not is written !")

-- arrows that are none of a model
unfoldable pub arrows_text : List ℕ → List ℕ
arrows_text line =
    advice (has_sign (codes "<->") line) (codes "A <-> B is written (A -> B) & (B -> A)")
    ++ advice (has_sign (codes "=>") line) (codes "=> is written ->")

-- what is no part of a name
unfoldable pub names_text : List ℕ → List ℕ
names_text line =
    advice (has_quote line) (codes "names stand without quotes")
    ++ advice (has_minus line) (codes "a name has no -; take _")

-- an advice for each slip of a line
abbrev pub slips_text : List ℕ → List ℕ
slips_text line = doubled_text line ++ worded_text line ++ arrows_text line ++ names_text line
