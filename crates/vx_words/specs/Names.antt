-- The names of options.
use Rattle.std.specs.Prelude.{◌≡◌, ℕ, ◌≤◌, List, [], ◌∷◌, length, take, slice_get, Contains, Some, Bool, true, false, not, ◌&&◌, ◌||◌, ◌==◌, nat_le, codes}
use Rattle.std.specs.List.{list_all}
use Rattle.std.specs.Str.{bytes_eq}
use Rattle.std.specs.Char.{is_ascii_digit, is_ascii_alphabetic}

-- a letter, a digit or _
abbrev pub is_word_byte : ℕ → Bool
is_word_byte b = is_ascii_alphabetic b || (is_ascii_digit b || b == 95)

abbrev pub begins_with_digit : List ℕ → Bool
begins_with_digit [] = false
begins_with_digit (b ∷ bs) = is_ascii_digit b

-- 1 to 64 letters, digits or _, of which the first is no digit, but neither true nor false
unfoldable pub is_name : List ℕ → Bool
is_name word =
    (nat_le 1 (length word) && nat_le (length word) 64) && (list_all is_word_byte word && not (begins_with_digit word))
    && not (bytes_eq word (codes "true") || bytes_eq word (codes "false"))

-- no text stands twice: none is among those before it
abbrev pub AreNew : List (List ℕ) → Type 0
AreNew names = (place : ℕ) (name : List ℕ) → slice_get names place ≡ Some name → ¬ Contains (take place names) name

-- the names of a model's options, as the lines of a report take them: each is a name, none stands twice, and there are at most 64
pub record AreOptionNames (names : List (List ℕ)) : Type 0 where
  pub named : list_all is_name names ≡ true
  pub distinct : AreNew names
  pub few : length names ≤ 64
