-- Members by their names and descriptors, among numbers that follow one another.
use Rattle.std.specs.List.{range_with_len}
use Rattle.std.specs.Prelude.{Bool, List, bytes_eq, nat_lt, not, ℕ, ◌&&◌, ◌+◌, ◌-◌}
use Rattle.vx_link.specs.Parts.{method_at}
use Rattle.vx_link.specs.declared.program.LinkedMethod.{LinkedMethod}
use Rattle.vx_link.specs.declared.program.Program.{Program}

-- the numbers from one on through another
abbrev pub numbers_between : (first last : ℕ) → List ℕ
numbers_between first last = range_with_len first (last + 1 - first)

-- a number past so many members
abbrev pub is_past : (count : ℕ) → ℕ → Bool
is_past count m = not (nat_lt m count)

-- a method has a name and a descriptor, and passes a test
abbrev pub is_method : Program → (LinkedMethod → Bool) → (name descriptor : List ℕ) → ℕ → Bool
is_method p test name descriptor m =
    bytes_eq (method_at p m).name name && (bytes_eq (method_at p m).descriptor descriptor && test (method_at p m))
