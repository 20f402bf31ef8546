-- Members found by their names and descriptors, and classes whose members have numbers that follow one another.
use Rattle.std.specs.List.{range_with_len}
use Rattle.std.specs.Prelude.{Bool, List, None, Option, Some, [], bytes_eq, false, find, length, map, ℕ, ◌&&◌, ◌+◌, ◌-◌, ◌<◌, ◌≡◌, ◌≤◌}
use Rattle.vx_link.specs.declared.class_list.Run.{Run}
use Rattle.vx_link.specs.declared.program.LinkedClass.{LinkedClass}
use Rattle.vx_list.specs.Places.{item_or}

-- of members with these names and descriptors the one of a number has a name and a descriptor; a number past them has empty ones
abbrev pub has_signature : List (List ℕ × List ℕ) → (name descriptor : List ℕ) → ℕ → Bool
has_signature signatures name descriptor m =
    bytes_eq (item_or signatures m ([], [])).0 name && bytes_eq (item_or signatures m ([], [])).1 descriptor

-- none of these has them from a number on up to another
abbrev pub NoneBetween : List (List ℕ × List ℕ) → (name descriptor : List ℕ) → (from to : ℕ) → Type 0
NoneBetween signatures name descriptor from to = (m : ℕ) → from ≤ m → m < to → has_signature signatures name descriptor m ≡ false

-- the first one from a number on that has them
abbrev pub first_signature : List (List ℕ × List ℕ) → (name descriptor : List ℕ) → (from : ℕ) → Option ℕ
first_signature signatures name descriptor from = find (has_signature signatures name descriptor) (range_with_len from (length signatures - from))

-- the first one from a number on, where it is not past a last number; a number past that says that there is none up to it
abbrev pub IsFirst : List (List ℕ × List ℕ) → (name descriptor : List ℕ) → (from last : ℕ) → Option ℕ → Type 0
IsFirst signatures name descriptor from last None = None ≡ first_signature signatures name descriptor from
IsFirst signatures name descriptor from last (Some found) =
    (found ≤ last → Some found ≡ first_signature signatures name descriptor from) × (last < found → NoneBetween signatures name descriptor from (last + 1))

-- the numbers of a run
abbrev pub numbers_of : Run → List ℕ
numbers_of run = range_with_len run.first run.count

-- numbers that follow one another
abbrev pub IsRun : List ℕ → Type 0
IsRun numbers = numbers ≡ range_with_len (item_or numbers 0 0) (length numbers)

pub record HaveRuns (c : LinkedClass) : Type 0 where
  pub methods : IsRun (map (λ m. m.0) c.methods)
  pub fields : IsRun (map (λ f. f.0) c.fields)
