-- Texts that spell ints.
use Rattle.std.specs.Prelude.{List, None, Option, Some, if◌then◌else◌, int_le, negsuc, option_and_then, pos, ℕ, ℤ, ◌&&◌}
use Rattle.vx_java.specs.Library.{signed_value}

-- a number of 32 bits
abbrev pub if_int : ℤ → Option ℤ
if_int n = if int_le (negsuc 2147483647) n && int_le n (pos 2147483647) then Some n else None

-- the int that a text spells: a sign or none, and ASCII digits
abbrev pub int_in : List ℕ → Option ℤ
int_in units = option_and_then if_int (signed_value units)
