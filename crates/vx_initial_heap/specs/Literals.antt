-- The literals of a program as they are gathered, and the numbers of their objects.
use Rattle.std.specs.Prelude.{Bool, List, None, Option, Some, [], fold, if◌then◌else◌, position, true, unwrap_or, ℕ, ◌++◌, ◌+◌, ◌∷◌, ◌≡◌}
use Rattle.std.specs.List.{list_any}
use Rattle.vx_initial_heap.specs.declared.literal.Literal.{Literal}
use Rattle.vx_initial_heap.specs.declared.literal.Literal.TheVariants.{Class, Text}
use Rattle.vx_java.specs.FirstObjects.{First, first_of_entry, for_class, for_main, for_text, same_first}
use Rattle.vx_link.specs.declared.program.LinkedClass.{LinkedClass}
use Rattle.vx_pool.specs.declared.pool.Entry.{Entry}
use Rattle.vx_pool.specs.declared.pool.Pool.{Pool}

-- a literal as the first objects name it
abbrev pub first_of : Literal → First
first_of (Text units) = for_text units.items
first_of (Class name) = for_class name.items

-- some literals with one more behind them, unless it is there
abbrev pub with_first : List First → First → List First
with_first listed x = if list_any (same_first x) listed then listed else listed ++ x ∷ []

abbrev pub with_one : List First → Option First → List First
with_one listed (Some x) = with_first listed x
with_one listed None = listed

-- with those that the entries of a pool name
abbrev pub with_entry : Pool → List First → Entry → List First
with_entry pool listed e = with_one listed (first_of_entry pool e)

abbrev pub with_pool : List First → Pool → List First
with_pool listed pool = fold (with_entry pool) listed pool.entries

abbrev pub with_class : List First → LinkedClass → List First
with_class listed class = with_pool listed class.pool

-- the number of the object of a literal, or of the first one's where it is not there, where these are the literals
abbrev pub number_among : List First → First → ℕ
number_among listed x = 260 + unwrap_or (position (same_first x) listed) 0

-- the number of the object of a pool entry
abbrev pub object_among : List First → Pool → Entry → ℕ
object_among listed pool e = number_among listed (unwrap_or (first_of_entry pool e) for_main)

-- an entry adds nothing to these, whatever its number
abbrev pub has_one : List First → Option First → Bool
has_one listed (Some x) = list_any (same_first x) listed
has_one listed None = true

abbrev pub IsListed : List First → Pool → Entry → ℕ → Type 0
IsListed listed pool e n = has_one listed (first_of_entry pool e) ≡ true

-- the number of an entry is that of its object
abbrev pub IsObject : List First → Pool → Entry → ℕ → Type 0
IsObject listed pool e n = n ≡ object_among listed pool e
