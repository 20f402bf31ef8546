-- The rules of each line of a report by itself: the range of its numbers, and the form of its words.
use Rattle.std.specs.Prelude.{◌≡◌, Option, Some, ℕ, ℤ, pos, negsuc, ◌^◌, List, length, codes, Bool, true, nat_le, nat_lt, ◌&&◌, ◌||◌, ◌==◌}
use Rattle.std.specs.List.{list_all}
use Rattle.std.specs.Str.{bytes_eq}
use Rattle.vx_value.specs.declared.end.End.{End}
use Rattle.vx_value.specs.declared.end.End.TheVariants.{Return, Exit, Uncaught, Unsupported, Illegal, Unfinished}
use Rattle.vx_words.specs.Names.{is_name}
use Rattle.vx_report.specs.Lines.{line_text}
use Rattle.vx_report.specs.declared.line.Line.{Line}
use Rattle.vx_report.specs.declared.line.Line.TheVariants.{Head, Count, Named, Limit, Rounds, Numbered, Printed, Ended, Spent, Done}

-- at least one byte
abbrev pub is_text : List ℕ → Bool
is_text bytes = nat_le 1 (length bytes) && list_all (λ b. nat_lt b 256) bytes

-- codes from -2^31 to 2^31 - 1
abbrev pub is_code : ℤ → Bool
is_code (pos n) = nat_lt n (2 ^ 31)
is_code (negsuc n) = nat_lt n (2 ^ 31)

-- the first four words name nothing, which is written `-`
abbrev pub is_named : ℕ → List ℕ → Bool
is_named word what = nat_le 5 word || bytes_eq what (codes "-")

unfoldable pub is_end : End → Bool
is_end Return = true
is_end (Exit code) = is_code code
is_end (Uncaught class) = is_text class
is_end (Unsupported word what place) = nat_le 1 word && nat_le word 8 && is_text what && is_named word what && is_text place
is_end (Illegal place) = is_text place
is_end Unfinished = true

-- a node, but not never
abbrev pub is_root : ℕ → Bool
is_root node = nat_le 1 node && nat_lt node (2 ^ 64)

unfoldable pub is_line : Line → Bool
is_line (Head version) = (version == 1) || (version == 2)
is_line (Count options) = nat_le options 64
is_line (Named name) = is_name name
is_line (Limit limit) = nat_le 1 limit && nat_le limit 1000000000
is_line (Rounds rounds) = nat_lt rounds (2 ^ 128)
is_line (Numbered id node) = nat_lt id (2 ^ 64) && nat_lt node.option (2 ^ 32) && nat_lt node.low (2 ^ 64) && nat_lt node.high (2 ^ 64)
is_line (Printed piece) = is_root piece.node && is_text piece.text
is_line (Ended line) = is_root line.node && is_end line.end
is_line (Spent line) = is_root line.node && nat_lt line.attempts (2 ^ 64)
is_line Done = true

-- the bytes are the text of the line, and the line is lawful by itself
pub record IsSpelled (text : List ℕ) (line : Line) : Type 0 where
  pub spelled : text ≡ line_text line
  pub lawful : is_line line ≡ true

-- what is read is the line that the bytes spell, if they spell one
pub record IsOnly (text : List ℕ) (found : Option Line) : Type 0 where
  pub same : (line : Line) → IsSpelled text line → found ≡ Some line
