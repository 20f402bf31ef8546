-- The names of the first classes of a program, each once, and for each of them the place of the first class of the name.
use Rattle.std.specs.Prelude.{◌≡◌, List, bytes_eq, length, option_map, position, slice_index, ℕ}
use Rattle.vx_link.specs.declared.program.LinkedClass.{LinkedClass}
use Rattle.vx_names.specs.Names.{place_of}

pub record ArePlaces (classes : List LinkedClass) (names : List (List ℕ)) (places : List ℕ) : Type 0 where
  pub count : length places ≡ length names
  pub found : (name : List ℕ) → option_map (slice_index places) (place_of names name) ≡ position (λ c. bytes_eq c.name name) classes
