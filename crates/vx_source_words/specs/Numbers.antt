-- Numbers in a source.
use Rattle.std.specs.Prelude.{ℕ, ℤ, pos, ◌+◌, ◌*◌, ◌%◌, ◌-ℤ◌, List, length, drop, slice_index, min, Bool, true, false, nat_le, ◌==◌, ◌&&◌, ◌||◌, Option, Some, None, Ok, Err, if◌then◌else◌}
use Rattle.std.specs.List.{list_all}
use Rattle.std.specs.Option.{option_map}
use Rattle.vx_words.specs.Decimal.{decimal}
use Rattle.vx_source_words.specs.Reading.{Read}
use Rattle.vx_source_words.specs.declared.numbers.Number.{Number}

-- No number of a source is larger: from here on numbers are not told apart.
abbrev pub LARGEST : ℕ
LARGEST = 0x8000_0000_0000_0001

abbrev pub magnitude : List ℕ → Option ℕ
magnitude digits = option_map (λ n. min LARGEST n) (decimal digits)

-- an optional - and a decimal number without leading zeros
unfoldable pub number_of : List ℕ → Option Number
number_of word =
    if slice_index word 0 == 45 then option_map (λ n. record { negative = true; magnitude = n }) (magnitude (drop 1 word))
    else option_map (λ n. record { negative = false; magnitude = n }) (magnitude word)

-- the number that a word spells: reason 2
abbrev pub spelled : List ℕ → Read Number
spelled word = given (number_of word)
  where
    given : Option Number → Read Number
    given None = Err 2
    given (Some n) = Ok n

-- a number is at least minus low, and at most high
abbrev pub is_within : ℕ → ℕ → Number → Bool
is_within low high n = nat_le n.magnitude (if n.negative then low else high)

abbrev pub value : Number → ℤ
value n = if n.negative then pos 0 -ℤ pos n.magnitude else pos n.magnitude

-- ---- hexadecimal

abbrev pub is_hex : ℕ → Bool
is_hex b = ((nat_le 48 b && nat_le b 57) || (nat_le 65 b && nat_le b 70)) || (nat_le 97 b && nat_le b 102)

-- the lowest four bits of a digit, and nine more of a letter
abbrev pub hex_value : ℕ → ℕ
hex_value b = if nat_le b 57 then b % 16 else (b % 16 + 9) % 16

-- four digits
abbrev pub are_four_hex : List ℕ → Bool
are_four_hex word = length word == 4 && list_all is_hex word

abbrev pub four_hex : List ℕ → ℕ
four_hex word = 4096 * hex_value (slice_index word 0) + 256 * hex_value (slice_index word 1) + 16 * hex_value (slice_index word 2) + hex_value (slice_index word 3)
