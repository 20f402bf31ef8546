-- How a word names the options that are on.
use Rattle.std.specs.Prelude.{ℕ, List, [], ◌∷◌, ◌++◌, map, Bool, true, not, ◌&&◌, ◌==◌, if◌then◌else◌, codes, Option, Some, None}
use Rattle.std.specs.List.{list_all, list_any}
use Rattle.std.specs.Str.{bytes_eq}

-- bytes in front of the first of some names
abbrev pub with_front : List ℕ → List (List ℕ) → List (List ℕ)
with_front front [] = front ∷ []
with_front front (name ∷ names) = (front ++ name) ∷ names

-- what stands between the commas of a word
unfoldable pub between_commas : List ℕ → List (List ℕ)
between_commas [] = [] ∷ []
between_commas (b ∷ rest) = if b == 44 then [] ∷ between_commas rest else with_front (b ∷ []) (between_commas rest)

-- the names in a word: none in `-`, else those between its commas
abbrev pub names_in : List ℕ → List (List ℕ)
names_in word = if bytes_eq word (codes "-") then [] else between_commas word

abbrev pub is_among : List (List ℕ) → List ℕ → Bool
is_among names name = list_any (bytes_eq name) names

-- no name stands twice
abbrev pub are_distinct : List (List ℕ) → Bool
are_distinct [] = true
are_distinct (name ∷ names) = not (is_among names name) && are_distinct names

-- the configuration in which just these options are on, where each is an option and none is named twice
abbrev pub with_these_on : List (List ℕ) → List (List ℕ) → Option (List Bool)
with_these_on options names = if list_all (is_among options) names && are_distinct names then Some (map (is_among names) options) else None

-- the configuration that a word names
abbrev pub configuration_of : List (List ℕ) → List ℕ → Option (List Bool)
configuration_of options word = with_these_on options (names_in word)
