-- Surrogate pairs in texts.
use Rattle.std.specs.Char.Utf16.{is_high_surrogate, is_low_surrogate}
use Rattle.std.specs.Prelude.{Bool, List, false, ℕ, ◌&&◌, ◌∷◌}

-- the first two units of a text are a surrogate pair
abbrev pub begins_with_pair : List ℕ → Bool
begins_with_pair (u ∷ v ∷ units) = is_high_surrogate u && is_low_surrogate v
begins_with_pair _ = false
