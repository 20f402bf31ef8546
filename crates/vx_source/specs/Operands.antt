-- What may stand behind a mnemonic. On each line the words are judged first (reason 2), then the ranges of numbers (3).
use Rattle.std.specs.Prelude.{ℕ, ℤ, pos, ◌+◌, ◌-◌, ◌+ℤ◌, int_le, List, length, take, drop, map, position, Bool, true, false, is_some, nat_le, nat_lt, ◌==◌, ◌&&◌, ◌||◌, Option, Some, None, unwrap_or, Ok, Err, if◌then◌else◌, codes}
use Rattle.std.specs.List.{list_all}
use Rattle.std.specs.Str.{bytes_eq}
use Rattle.vx_opcode.specs.declared.shape.Shape.{Shape}
use Rattle.vx_opcode.specs.declared.shape.Shape.TheVariants as shape
use Rattle.vx_opcode.specs.Table.{shape_of}
use Rattle.vx_source_words.specs.Reading.{Read, ◌>>=◌, check}
use Rattle.vx_source_words.specs.Numbers.{spelled, number_of, is_within, value}
use Rattle.vx_source_words.specs.Texts.{text_of}
use Rattle.vx_source_words.specs.Tokens.{word_at}
use Rattle.vx_source_words.specs.declared.numbers.Number.{Number}
use Rattle.vx_source.specs.declared.statement.Operand.{Operand}
use Rattle.vx_source.specs.declared.statement.Operand.TheVariants as operand
use Rattle.vx_source.specs.declared.statement.Case.{Case}

-- a word is one of the texts of the language
abbrev pub is_word : List (List ℕ) → ℕ → List ℕ → Bool
is_word words i text = bytes_eq (word_at words i) text

-- ---- numbers

abbrev pub ranged : ℕ → ℕ → List ℕ → Read Number
ranged low high word = do
  n ← spelled word
  check (is_within low high n) 3 (Ok n)

-- a major version that is read
unfoldable pub version_of : List ℕ → Read ℕ
version_of word = do
  n ← ranged 0 52 word
  check (nat_le 45 n.magnitude) 3 (Ok n.magnitude)

-- numbers of 32 and 64 bits
unfoldable pub int_of : List ℕ → Read ℤ
int_of word = do
  n ← ranged 0x8000_0000 0x7fff_ffff word
  Ok (value n)

unfoldable pub long_of : List ℕ → Read ℤ
long_of word = do
  n ← ranged 0x8000_0000_0000_0000 0x7fff_ffff_ffff_ffff word
  Ok (value n)

-- ---- operands

-- a signed number of one or two bytes
unfoldable pub number_operand : List (List ℕ) → ℕ → ℕ → Read Operand
number_operand words low high = check (length words == 2) 2 (do
  n ← ranged low high (word_at words 1)
  Ok (operand.Number (value n)))

-- a local, whose number is the word behind a place
unfoldable pub local_operand : List (List ℕ) → ℕ → ℕ → Read Operand
local_operand words from high = check (length words == from + 2) 2 (do
  n ← ranged 0 high (word_at words (from + 1))
  Ok (operand.Local n.magnitude))

-- a local and a signed number
unfoldable pub increment_operand : List (List ℕ) → ℕ → ℕ → ℕ → Read Operand
increment_operand words from high by = check (length words == from + 3) 2 (do
  n ← spelled (word_at words (from + 1))
  k ← spelled (word_at words (from + 2))
  check (is_within 0 high n && is_within by (by - 1) k) 3 (Ok (operand.Increment n.magnitude (value k))))

-- a text, or none where the word is no text
abbrev pub literal : List ℕ → Option (List ℕ)
literal word = given (text_of word)
  where
    given : Read (List ℕ) → Option (List ℕ)
    given (Ok text) = Some text
    given (Err e) = None

-- int N, string TEXT or class NAME
unfoldable pub constant_operand : List (List ℕ) → Read Operand
constant_operand words =
    check (length words == 3) 2 (
    if is_word words 1 (codes "int") then (int_of (word_at words 2) >>= λ n. Ok (operand.Int n))
    else if is_word words 1 (codes "string") then Ok (operand.Text (literal (word_at words 2)))
    else if is_word words 1 (codes "class") then Ok (operand.Class (word_at words 2))
    else Err 2
    )

-- long N
unfoldable pub long_operand : List (List ℕ) → Read Operand
long_operand words = check (length words == 3 && is_word words 1 (codes "long")) 2 (long_of (word_at words 2) >>= λ n. Ok (operand.Long n))

unfoldable pub class_operand : List (List ℕ) → Read Operand
class_operand words = check (length words == 2) 2 (Ok (operand.Class (word_at words 1)))

unfoldable pub jump_operand : List (List ℕ) → Read Operand
jump_operand words = check (length words == 2) 2 (Ok (operand.Jump (word_at words 1)))

-- CLASS NAME DESC, the first of which stands at a place
abbrev pub member : List (List ℕ) → Bool → ℕ → Operand
member words interface at = operand.Member (record { interface = interface; class = word_at words at; name = word_at words (at + 1); descriptor = word_at words (at + 2) })

unfoldable pub member_operand : List (List ℕ) → Read Operand
member_operand words = check (length words == 4) 2 (Ok (member words false 1))

-- CLASS NAME DESC, before which the word interface may stand
unfoldable pub call_operand : List (List ℕ) → Read Operand
call_operand words =
    if length words == 5 && is_word words 1 (codes "interface") then Ok (member words true 2)
    else member_operand words

-- the kinds of an array of primitives
abbrev pub kind_of : List ℕ → Option ℕ
kind_of word =
    if bytes_eq word (codes "boolean") then Some 4 else if bytes_eq word (codes "char") then Some 5
    else if bytes_eq word (codes "byte") then Some 8 else if bytes_eq word (codes "short") then Some 9
    else if bytes_eq word (codes "int") then Some 10 else if bytes_eq word (codes "long") then Some 11
    else None

unfoldable pub array_operand : List (List ℕ) → Read Operand
array_operand words = check (length words == 2) 2 (given (kind_of (word_at words 1)))
  where
    given : Option ℕ → Read Operand
    given None = Err 2
    given (Some kind) = Ok (operand.Number (pos kind))

unfoldable pub dimensions_operand : List (List ℕ) → Read Operand
dimensions_operand words = check (length words == 3) 2 (do
  n ← ranged 0 255 (word_at words 2)
  Ok (operand.Dimensions (word_at words 1) n.magnitude))

-- LOW DEFAULT LABEL .., whose greatest key is an int
unfoldable pub table_operand : List (List ℕ) → Read Operand
table_operand words = check (nat_le 4 (length words)) 2 (do
  low ← int_of (word_at words 1)
  check (int_le (low +ℤ pos (length words - 3)) (pos 0x8000_0000)) 3
      (Ok (operand.Table (record { low = low; fallback = word_at words 2; labels = drop 3 words }))))

-- ---- K:LABEL

abbrev pub colon : List ℕ → ℕ
colon word = unwrap_or (position (λ b. b == 58) word) (length word)

abbrev pub key_word : List ℕ → List ℕ
key_word word = take (colon word) word

abbrev pub is_case : List ℕ → Bool
is_case word = nat_lt (colon word) (length word) && is_some (number_of (key_word word))

abbrev pub key_of : List ℕ → ℤ
key_of word = given (number_of (key_word word))
  where
    given : Option Number → ℤ
    given None = pos 0
    given (Some n) = if is_within 0x8000_0000 0x7fff_ffff n then value n else pos 0

abbrev pub has_key : List ℕ → Bool
has_key word = given (number_of (key_word word))
  where
    given : Option Number → Bool
    given None = false
    given (Some n) = is_within 0x8000_0000 0x7fff_ffff n

abbrev pub case_of : List ℕ → Case
case_of word = record { key = key_of word; label = drop (colon word + 1) word }

-- DEFAULT K:LABEL ..
unfoldable pub lookup_operand : List (List ℕ) → Read Operand
lookup_operand words =
    check (nat_le 2 (length words) && list_all is_case (drop 2 words)) 2
    (check (list_all has_key (drop 2 words)) 3
    (Ok (operand.Lookup (record { fallback = word_at words 1; cases = map case_of (drop 2 words) }))))

-- ---- by the shape of an opcode

-- the operand of an instruction that names an entry of the pool
unfoldable pub pool_operand : ℕ → List (List ℕ) → Read Operand
pool_operand op words =
    if op == 0x13 then constant_operand words
    else if op == 0x14 then long_operand words
    else if op == 0xb7 || op == 0xb8 then call_operand words
    else if nat_le 0xbb op then class_operand words
    else member_operand words

unfoldable pub shaped_operand : Shape → ℕ → List (List ℕ) → Read Operand
shaped_operand shape.Plain op words = check (length words == 1) 2 (Ok operand.Nothing)
shaped_operand shape.Byte op words = number_operand words 128 127
shaped_operand shape.Short op words = number_operand words 32768 32767
shaped_operand shape.PoolByte op words = constant_operand words
shaped_operand shape.Pool op words = pool_operand op words
shaped_operand shape.Local op words = local_operand words 0 255
shaped_operand shape.Increment op words = increment_operand words 0 255 128
shaped_operand shape.Jump op words = jump_operand words
shaped_operand shape.JumpWide op words = jump_operand words
shaped_operand shape.Interface op words = member_operand words
shaped_operand shape.Array op words = array_operand words
shaped_operand shape.Dimensions op words = dimensions_operand words
shaped_operand shape.Table op words = table_operand words
shaped_operand shape.Lookup op words = lookup_operand words
shaped_operand shape.Dynamic op words = Err 1
shaped_operand shape.Wide op words = Err 1

abbrev pub operand_of : ℕ → List (List ℕ) → Read Operand
operand_of op words = given (shape_of op)
  where
    given : Option Shape → Read Operand
    given None = Err 1
    given (Some s) = shaped_operand s op words

-- the operand behind wide and a mnemonic
abbrev pub wide_operand_of : ℕ → List (List ℕ) → Read Operand
wide_operand_of op words = given (shape_of op)
  where
    given : Option Shape → Read Operand
    given (Some shape.Local) = local_operand words 1 0xffff
    given (Some shape.Increment) = increment_operand words 1 0xffff 32768
    given _ = Err 2
