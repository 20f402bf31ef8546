-- The texts of a constant pool that are known so far, by the places of their entries.
use Rattle.std.specs.Prelude.{List, Option, Some, slice_get, ℕ, ◌≡◌}
use Rattle.vx_link.specs.Names.{utf8}
use Rattle.vx_pool.specs.declared.pool.Pool.{Pool}

-- a text that is known at a place is that of the entry there
abbrev pub AreTexts : Pool → List (Option (List ℕ)) → Type 0
AreTexts pool known = (place : ℕ) (text : List ℕ) → slice_get known place ≡ Some (Some text) → text ≡ utf8 pool place
