-- Places in texts.
use Rattle.std.specs.Prelude.{None, Option, Some, negsuc, pos, ℕ, ℤ}

-- a place as methods of texts answer it: -1 where there is none
abbrev pub in_texts : Option ℕ → ℤ
in_texts (Some place) = pos place
in_texts None = negsuc 0
