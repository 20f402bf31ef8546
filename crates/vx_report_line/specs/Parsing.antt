-- The line that some bytes spell, if they spell one.
use Rattle.std.specs.Prelude.{ℕ, ℤ, pos, negsuc, zero, suc, ◌+◌, ◌-◌, ◌*◌, ◌^◌, List, [], ◌∷◌, length, codes, decimal, Bool, nat_le, nat_lt, nat_eq, ◌==◌, not, Option, Some, None, option_map, if◌then◌else◌}
use Rattle.std.specs.Str.{bytes_eq}
use Rattle.std.specs.Str.Parse.{digits_value}
use Rattle.vx_value.specs.declared.end.End.{End}
use Rattle.vx_value.specs.declared.end.End.TheVariants.{Return, Exit, Uncaught, Unsupported, Illegal, Unfinished}
use Rattle.vx_value.specs.declared.end.Stream.{Stream}
use Rattle.vx_value.specs.declared.end.Stream.TheVariants.{Out, Err}
use Rattle.vx_value.specs.Words.{is_plain}
use Rattle.vx_report.specs.declared.line.Line.{Line}
use Rattle.vx_report.specs.declared.line.Line.TheVariants.{Head, Count, Named, Limit, Rounds, Numbered, Printed, Ended, Spent, Done}
use Rattle.vx_report.specs.Lines.{kinds}
use Rattle.vx_words.specs.Hex.{hex_value}
use Rattle.vx_words.specs.Names.{is_name}
use Rattle.vx_report_line.specs.Forms.{is_named}

infixl 10 ◌>>=◌
abbrev pub ◌>>=◌ : {A B : Type 0} → Option A → (A → Option B) → Option B
(Some x) >>= f = f x
None >>= f = None

-- only where the test is met
abbrev pub only_if : {A : Type 0} → Bool → Option A → Option A
only_if test next = if test then next else None

-- what stands behind a word, if the text begins with it; or else another reading
abbrev pub reading : {A : Type 0} → Option (List ℕ) → (List ℕ → Option A) → Option A → Option A
reading None read next = next
reading (Some rest) read next = read rest

-- what stands behind a word
unfoldable pub behind : List ℕ → List ℕ → Option (List ℕ)
behind [] text = Some text
behind (b ∷ bs) [] = None
behind (b ∷ bs) (t ∷ ts) = if nat_eq b t then behind bs ts else None

-- what stands before the first space, and what behind it
unfoldable pub cut : List ℕ → Option (List ℕ × List ℕ)
cut [] = None
cut (b ∷ bs) = if b == 32 then Some ([], bs) else option_map (λ parts. (b ∷ parts.0, parts.1)) (cut bs)

-- the number whose decimal digits a word is
unfoldable pub decimal_in : List ℕ → Option ℕ
decimal_in word = let value = digits_value 10 word in only_if (bytes_eq (decimal value) word) (Some value)

-- the same below a bound
abbrev pub below : ℕ → ℕ → Option ℕ
below bound n = only_if (nat_lt n bound) (Some n)

unfoldable pub number_in : ℕ → List ℕ → Option ℕ
number_in bound word = decimal_in word >>= below bound

-- a number, and what stands behind the space after it
unfoldable pub leading : ℕ → List ℕ → Option (ℕ × List ℕ)
leading bound text = do
  parts ← cut text
  n ← number_in bound parts.0
  Some (n, parts.1)

-- the byte of an escape, which is one that doesn't stand for itself
unfoldable pub escaped_byte : ℕ → ℕ → ℕ → Option ℕ
escaped_byte least h l = do
  high ← hex_value h
  low ← hex_value l
  only_if (not (is_plain least (16 * high + low))) (Some (16 * high + low))

-- the first byte that a text or a word spells, and what stands behind it
unfoldable pub first_byte : ℕ → List ℕ → Option (ℕ × List ℕ)
first_byte least [] = None
first_byte least (b ∷ []) = only_if (is_plain least b) (Some (b, []))
first_byte least (b ∷ h ∷ []) = only_if (is_plain least b) (Some (b, h ∷ []))
first_byte least (b ∷ h ∷ l ∷ rest) = if b == 92 then (escaped_byte least h l >>= λ byte. Some (byte, rest)) else only_if (is_plain least b) (Some (b, h ∷ l ∷ rest))

-- the bytes that a text or a word spells, one after the other; a text has at most as many bytes as its spelling
unfoldable pub unspelled : ℕ → ℕ → List ℕ → Option (List ℕ)
unspelled least steps [] = Some []
unspelled least zero (b ∷ text) = None
unspelled least (suc steps) (b ∷ text) = do
  first ← first_byte least (b ∷ text)
  rest ← unspelled least steps first.1
  Some (first.0 ∷ rest)

-- the bytes of a text or a word that isn't empty
unfoldable pub text_in : ℕ → List ℕ → Option (List ℕ)
text_in least text = only_if (nat_le 1 (length text)) (unspelled least (length text) text)

-- an exit code: a number below 2^31, or `-` and a number from 1 to 2^31
unfoldable pub negative_in : List ℕ → Option ℤ
negative_in digits = number_in (2 ^ 31 + 1) digits >>= λ n. only_if (nat_le 1 n) (Some (negsuc (n - 1)))

unfoldable pub positive_in : List ℕ → Option ℤ
positive_in digits = option_map pos (number_in (2 ^ 31) digits)

unfoldable pub code_in : List ℕ → Option ℤ
code_in text = reading (behind (codes "-") text) negative_in (positive_in text)

-- the number of a word
abbrev pub number_of_word : List (ℕ × List ℕ) → List ℕ → Option ℕ
number_of_word [] word = None
number_of_word (row ∷ rows) word = if bytes_eq word row.1 then Some row.0 else number_of_word rows word

unfoldable pub kind_in : List ℕ → Option ℕ
kind_in word = number_of_word kinds word

unfoldable pub unsupported_in : List ℕ → Option End
unsupported_in text = do
  kind ← cut text
  word ← kind_in kind.0
  words ← cut kind.1
  what ← text_in 33 words.0
  place ← text_in 33 words.1
  only_if (is_named word what) (Some (Unsupported word what place))

abbrev pub named_end_in : List ℕ → Option End
named_end_in text = reading (behind (codes "uncaught ") text) (λ rest. option_map Uncaught (text_in 33 rest)) (reading (behind (codes "illegal ") text) (λ rest. option_map Illegal (text_in 33 rest)) None)

unfoldable pub end_in : List ℕ → Option End
end_in text = if bytes_eq text (codes "return") then Some Return else (if bytes_eq text (codes "unfinished") then Some Unfinished else reading (behind (codes "exit ") text) (λ rest. option_map Exit (code_in rest)) (reading (behind (codes "unsupported ") text) unsupported_in (named_end_in text)))

unfoldable pub node_line_in : List ℕ → Option Line
node_line_in text = do
  id ← leading (2 ^ 64) text
  option ← leading (2 ^ 64) id.1
  low ← leading (2 ^ 64) option.1
  high ← number_in (2 ^ 64) low.1
  only_if (nat_lt option.0 (2 ^ 32)) (Some (Numbered id.0 (record { option = option.0; low = low.0; high = high })))

-- a node that isn't never, and what stands behind the space after it
unfoldable pub root_in : List ℕ → Option (ℕ × List ℕ)
root_in text = do
  node ← leading (2 ^ 64) text
  only_if (nat_le 1 node.0) (Some node)

unfoldable pub piece_in : Stream → List ℕ → Option Line
piece_in stream text = do
  node ← root_in text
  bytes ← text_in 32 node.1
  Some (Printed (record { node = node.0; stream = stream; text = bytes }))

unfoldable pub end_line_in : List ℕ → Option Line
end_line_in text = do
  node ← root_in text
  end ← end_in node.1
  Some (Ended (record { node = node.0; end = end }))

unfoldable pub attempts_in : List ℕ → Option Line
attempts_in text = do
  node ← root_in text
  n ← number_in (2 ^ 64) node.1
  Some (Spent (record { node = node.0; attempts = n }))

unfoldable pub head_in : List ℕ → Option Line
head_in text = do
  version ← number_in 3 text
  only_if (nat_le 1 version) (Some (Head version))

unfoldable pub count_in : List ℕ → Option Line
count_in text = option_map Count (number_in 65 text)

unfoldable pub name_in : List ℕ → Option Line
name_in text = only_if (is_name text) (Some (Named text))

unfoldable pub limit_in : List ℕ → Option Line
limit_in text = do
  limit ← number_in 1000000001 text
  only_if (nat_le 1 limit) (Some (Limit limit))

unfoldable pub rounds_in : List ℕ → Option Line
rounds_in text = option_map Rounds (number_in (2 ^ 128) text)

unfoldable pub setting_in : List ℕ → Option Line
setting_in text = reading (behind (codes "option ") text) name_in (reading (behind (codes "limit ") text) limit_in (reading (behind (codes "rounds ") text) rounds_in None))

unfoldable pub front_in : List ℕ → Option Line
front_in text = reading (behind (codes "varexj report ") text) head_in (reading (behind (codes "options ") text) count_in (setting_in text))

unfoldable pub last_in : List ℕ → Option Line
last_in text = reading (behind (codes "end ") text) end_line_in (reading (behind (codes "attempts ") text) attempts_in (if bytes_eq text (codes "done") then Some Done else front_in text))

unfoldable pub printed_in : List ℕ → Option Line
printed_in text = reading (behind (codes "out ") text) (piece_in Out) (reading (behind (codes "err ") text) (piece_in Err) (last_in text))

-- the line that some bytes spell
unfoldable pub line_in : List ℕ → Option Line
line_in text = reading (behind (codes "node ") text) node_line_in (printed_in text)
