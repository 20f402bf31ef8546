-- Hexadecimal digits.
use Rattle.std.specs.Prelude.{ℕ, ◌-◌, nat_le, ◌&&◌, Option, Some, None, if◌then◌else◌}
use Rattle.vx_words.specs.Decimal.{is_digit}

-- the number of a hexadecimal digit in lower case
abbrev pub hex_value : ℕ → Option ℕ
hex_value b = if is_digit b then Some (b - 48) else (if nat_le 97 b && nat_le b 102 then Some (b - 87) else None)
