-- Lengths of arrays of arrays by the parts of the code.
use Rattle.std.specs.List.{list_any}
use Rattle.std.specs.Prelude.{List, None, Option, Some, map, nat_lt, option_and_then, slice_get, ℕ, ℤ, ◌||◌}
use Rattle.vx_java.specs.Arrays.{grid_cells, push_grid}
use Rattle.vx_java.specs.Machine.{Here, Int, Outcome, Value, length_bound, raise, when}
use Rattle.vx_value.specs.Arithmetic.{natural, negative}

-- the int that a value of the ordinary machine is, if it is one
abbrev pub int_of : Value → Option ℤ
int_of (Int n) = Some n
int_of v = None

-- the int that stands so many below the operand on top, if there is one
abbrev pub int_below : ℕ → List Value → Option ℤ
int_below below operands = option_and_then int_of (slice_get operands below)

-- an array of these lengths, of which there is one at least
abbrev pub grid_of_lengths : Here → ℕ → List ℤ → List Value → Outcome
grid_of_lengths h class lengths rest =
    let ns = map natural lengths in
    when (list_any negative lengths) (raise h "java/lang/NegativeArraySizeException")
    (when (list_any (nat_lt length_bound) ns || nat_lt length_bound (grid_cells ns)) (raise h "java/lang/OutOfMemoryError")
    (push_grid h class ns rest))
