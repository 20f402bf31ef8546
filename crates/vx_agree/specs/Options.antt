-- Lists of names that are equal.
use Rattle.std.specs.Prelude.{ℕ, Bool, true, false, List, [], ◌∷◌, ◌&&◌}
use Rattle.std.specs.Str.{bytes_eq}

-- the same names in the same order
abbrev pub are_same_names : List (List ℕ) → List (List ℕ) → Bool
are_same_names [] [] = true
are_same_names [] (other ∷ others) = false
are_same_names (name ∷ names) [] = false
are_same_names (name ∷ names) (other ∷ others) = bytes_eq name other && are_same_names names others
