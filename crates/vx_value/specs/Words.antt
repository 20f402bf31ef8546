-- How texts and words are written: printable ASCII as itself, every other byte by an escape.
use Rattle.std.specs.Prelude.{ℕ, ◌+◌, ◌/◌, ◌%◌, List, [], ◌∷◌, Bool, nat_le, ◌&&◌, not, ◌==◌, if◌then◌else◌}
use Rattle.std.specs.List.{flat_map}

-- a hexadecimal digit in lower case
abbrev pub hex_digit : ℕ → ℕ
hex_digit n = if nat_le n 9 then 48 + n else 87 + n

-- a byte stands for itself from the least one that does to 126, but for the backslash
abbrev pub is_plain : ℕ → ℕ → Bool
is_plain least b = nat_le least b && nat_le b 126 && not (b == 92)

-- a backslash and two hexadecimal digits
abbrev pub escape : ℕ → List ℕ
escape b = 92 ∷ hex_digit (b / 16) ∷ hex_digit (b % 16) ∷ []

abbrev pub spelled_byte : ℕ → ℕ → List ℕ
spelled_byte least b = if is_plain least b then b ∷ [] else escape b

abbrev pub spelled : ℕ → List ℕ → List ℕ
spelled least bytes = flat_map (spelled_byte least) bytes

-- in a text a space stands for itself
abbrev pub text_of : List ℕ → List ℕ
text_of bytes = spelled 32 bytes

-- in a word it doesn't
abbrev pub word_of : List ℕ → List ℕ
word_of bytes = spelled 33 bytes
