-- Texts in a source: what stands between double quotes.
use Rattle.std.specs.Prelude.{ℕ, suc, ◌+◌, ◌-◌, ◌*◌, ◌/◌, ◌%◌, List, [], ◌∷◌, ◌++◌, length, take, drop, slice_index, Bool, false, not, nat_le, nat_lt, ◌==◌, ◌&&◌, ◌||◌, Option, Some, None, Ok, Err, if◌then◌else◌}
use Rattle.vx_pool.specs.Text.{is_tail}
use Rattle.vx_source_words.specs.Reading.{Read, ◌>>=◌, check, steps}
use Rattle.vx_source_words.specs.Numbers.{are_four_hex, four_hex}
use Rattle.vx_source_words.specs.declared.texts.Piece.{Piece}

-- the place of the first " before which no \ stands that stands for itself, or the length where there is none
unfoldable pub quote_place : Bool → List ℕ → ℕ
quote_place escaped [] = 0
quote_place escaped (b ∷ bs) = if not escaped && b == 34 then 0 else suc (quote_place (not escaped && b == 92) bs)

-- ---- units of UTF-16, and their modified UTF-8

abbrev pub unit_bytes : ℕ → List ℕ
unit_bytes u =
    if nat_le 1 u && nat_le u 127 then u ∷ []
    else if nat_le u 0x7ff then (192 + u / 64) ∷ (128 + u % 64) ∷ []
    else (224 + u / 4096) ∷ (128 + u / 64 % 64) ∷ (128 + u % 64) ∷ []

abbrev pub low_bytes : Option ℕ → List ℕ
low_bytes None = []
low_bytes (Some u) = unit_bytes u

abbrev pub piece_bytes : Piece → List ℕ
piece_bytes p = unit_bytes p.unit ++ low_bytes p.low

-- ---- pieces: an escape, or a character of UTF-8 (RFC 3629)

abbrev pub is_between : ℕ → ℕ → ℕ → Bool
is_between low high b = nat_le low b && nat_le b high

abbrev pub one_unit : ℕ → ℕ → Option Piece
one_unit unit taken = Some (record { unit = unit; low = None; taken = taken })

-- an escape: \" or \\ or \u and four hexadecimal digits
unfoldable pub escape_at : List ℕ → Option Piece
escape_at text =
    if slice_index text 1 == 34 || slice_index text 1 == 92 then one_unit (slice_index text 1) 2
    else if slice_index text 1 == 117 && are_four_hex (take 4 (drop 2 text)) then one_unit (four_hex (take 4 (drop 2 text))) 6
    else None

abbrev pub is_two : ℕ → ℕ → Bool
is_two a b = is_between 194 223 a && is_tail b

-- neither a longer form nor a surrogate
abbrev pub is_three : ℕ → ℕ → ℕ → Bool
is_three a b c = is_between 224 239 a && is_tail b && is_tail c && (not (a == 224) || nat_le 160 b) && (not (a == 237) || nat_le b 159)

abbrev pub is_four : ℕ → ℕ → ℕ → ℕ → Bool
is_four a b c d = is_between 240 244 a && is_tail b && is_tail c && is_tail d && (not (a == 240) || nat_le 144 b) && (not (a == 244) || nat_le b 143)

-- the surrogates of a character above 65,535, less 65,536
abbrev pub surrogates : ℕ → Option Piece
surrogates c = Some (record { unit = 0xd800 + c / 1024; low = Some (0xdc00 + c % 1024); taken = 4 })

-- a character of more than one byte
unfoldable pub long_at : ℕ → ℕ → ℕ → ℕ → Option Piece
long_at a b c d =
    if is_two a b then one_unit (a % 32 * 64 + b % 64) 2
    else if is_three a b c then one_unit (a % 16 * 4096 + b % 64 * 64 + c % 64) 3
    else if is_four a b c d then surrogates (a % 8 * 262144 + b % 64 * 4096 + c % 64 * 64 + d % 64 - 65536)
    else None

unfoldable pub piece_at : List ℕ → Option Piece
piece_at text =
    if slice_index text 0 == 92 then escape_at text
    else if nat_lt (slice_index text 0) 128 then one_unit (slice_index text 0) 1
    else long_at (slice_index text 0) (slice_index text 1) (slice_index text 2) (slice_index text 3)

-- ---- whole texts

abbrev pub behind_piece : List ℕ × List ℕ → Option Piece → Read (List ℕ × List ℕ)
behind_piece s None = Err 6
behind_piece s (Some p) = Ok (s.0 ++ piece_bytes p, drop p.taken s.1)

-- one piece more, unless the text is at its end
unfoldable pub piece_step : List ℕ × List ℕ → Read (List ℕ × List ℕ)
piece_step s = if length s.1 == 0 then Ok s else behind_piece s (piece_at s.1)

-- the modified UTF-8 of what stands between quotes; each piece has a byte at least
abbrev pub modified : List ℕ → Read (List ℕ)
modified text = steps piece_step ([], text) (length text) >>= λ s. Ok s.0

-- whether a word begins with a quote, and the next one that isn't escaped ends it
abbrev pub is_quoted : List ℕ → Bool
is_quoted word = slice_index word 0 == 34 && quote_place false (drop 1 word) + 2 == length word

-- the text that a word spells: reason 6
unfoldable pub text_of : List ℕ → Read (List ℕ)
text_of word = check (is_quoted word) 6 (do
  text ← modified (take (length word - 2) (drop 1 word))
  check (nat_lt (length text) 65536) 6 (Ok text))
