-- A table of constants with their indices.
use Rattle.std.specs.Prelude.{◌≡◌, ℕ, ◌+◌, List, [], ◌∷◌}
use Rattle.std.specs.Map.{keys_of}
use Rattle.vx_class_parts.specs.Constants.{places, width}
use Rattle.vx_class_parts.specs.declared.constants.Constant.{Constant}

-- constants with their indices, of which the first one is given
abbrev pub indexed_from : ℕ → List Constant → List (Constant × ℕ)
indexed_from i [] = []
indexed_from i (c ∷ cs) = (c, i) ∷ indexed_from (i + width c) cs

-- each constant has its index, and the places are counted
pub record IsIndexed (entries : List (Constant × ℕ)) (count : ℕ) : Type 0 where
  pub indices : entries ≡ indexed_from 1 (keys_of entries)
  pub counted : count ≡ places (keys_of entries)
