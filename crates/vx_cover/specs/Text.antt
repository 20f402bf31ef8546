-- The text of a cover: a head, a line for each configuration, and a last line.
use Rattle.std.specs.Prelude.{ℕ, ◌+◌, zero, suc, Bool, List, [], ◌∷◌, ◌++◌, length, if◌then◌else◌, codes, decimal}
use Rattle.std.specs.List.{flat_map}
use Rattle.vx_space.specs.Config.{value_of}
use Rattle.vx_list.specs.Places.{item_or}
use Rattle.vx_cover.specs.declared.tries.Try.{Try}

-- the options below a number that are on, ascending
abbrev pub options_on : ℕ → List Bool → List ℕ
options_on zero c = []
options_on (suc n) c = options_on n c ++ (if value_of c n then n ∷ [] else [])

abbrev pub more : (ℕ → List ℕ) → List ℕ → List ℕ
more text items = flat_map (λ n. 44 ∷ text n) items

-- the texts of some numbers, joined by commas; a dash for none
abbrev pub joined : (ℕ → List ℕ) → List ℕ → List ℕ
joined text [] = 45 ∷ []
joined text (first ∷ rest) = text first ++ more text rest

abbrev pub name_of : List (List ℕ) → ℕ → List ℕ
name_of names option = item_or names option []

-- the names of the options that are on
abbrev pub configuration_text : List (List ℕ) → List Bool → List ℕ
configuration_text names c = joined (name_of names) (options_on (length names) c)

-- the configuration, its end and its pieces that no line before has
abbrev pub try_text : List (List ℕ) → Try → List ℕ
try_text names t = codes "try " ++ configuration_text names t.configuration ++ codes " " ++ joined decimal t.ends ++ codes " " ++ joined decimal t.pieces ++ codes "\n"

unfoldable pub cover_text : List (List ℕ) → List Try → List ℕ
cover_text names tries = codes "varexj cover 1\n" ++ flat_map (try_text names) tries ++ codes "done\n"
