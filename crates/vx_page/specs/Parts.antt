-- Fixed parts of a page, and what they are one behind the other.
use Rattle.std.specs.Borrow.{Bor}
use Rattle.std.specs.List.{flat_map}
use Rattle.std.specs.Prelude.{ℕ, List}

abbrev pub joined : List (List ℕ) → List ℕ
joined parts = flat_map (λ part. part) parts

-- of parts as a function is given them
abbrev pub joined_slices : List (Bor (List ℕ)) → List ℕ
joined_slices parts = flat_map (λ (part : Bor (List ℕ)). part.now) parts
