-- What a line says, by its first word.
use Rattle.std.specs.Prelude.{ℕ, ◌+◌, ◌-◌, List, length, take, drop, min, slice_index, Bool, false, true, nat_le, nat_lt, ◌==◌, ◌&&◌, ◌||◌, Option, Some, None, Ok, Err, if◌then◌else◌, codes}
use Rattle.std.specs.List.{list_any}
use Rattle.std.specs.Str.{bytes_eq}
use Rattle.vx_source_words.specs.Reading.{Read, ◌>>=◌, check}
use Rattle.vx_source_words.specs.Numbers.{spelled, is_within, are_four_hex, four_hex}
use Rattle.vx_source_words.specs.Tokens.{word_at, begins_text}
use Rattle.vx_source_words.specs.Mnemonics.{opcode_of}
use Rattle.vx_source.specs.Operands.{is_word, version_of, int_of, long_of, literal, operand_of, wide_operand_of}
use Rattle.vx_source.specs.declared.statement.Statement.{Statement}
use Rattle.vx_source.specs.declared.statement.Statement.TheVariants as statement
use Rattle.vx_source.specs.declared.statement.Value.{Value}
use Rattle.vx_source.specs.declared.statement.Value.TheVariants as value
use Rattle.vx_source.specs.declared.statement.Room.{Room}

-- ---- the parts of a class

-- version MAJOR
unfoldable pub version_line : List (List ℕ) → Read Statement
version_line words = check (length words == 2) 2 (version_of (word_at words 1) >>= λ n. Ok (statement.Version n))

-- class FLAGS NAME SUPER
unfoldable pub class_line : List (List ℕ) → Read Statement
class_line words = check (length words == 4 && are_four_hex (word_at words 1)) 2
    (Ok (statement.Class (record { flags = four_hex (word_at words 1); name = word_at words 2; super_class = word_at words 3 })))

-- implements NAME
unfoldable pub implements_line : List (List ℕ) → Read Statement
implements_line words = check (length words == 2) 2 (Ok (statement.Implements (word_at words 1)))

abbrev pub is_member : List (List ℕ) → Bool
is_member words = (length words == 4 || length words == 6) && are_four_hex (word_at words 1)

-- nothing, int N, long N or string TEXT
unfoldable pub value_of : List (List ℕ) → Read Value
value_of words =
    if length words == 4 then Ok value.Nothing
    else if is_word words 4 (codes "int") then (int_of (word_at words 5) >>= λ n. Ok (value.Int n))
    else if is_word words 4 (codes "long") then (long_of (word_at words 5) >>= λ n. Ok (value.Long n))
    else if is_word words 4 (codes "string") then Ok (value.Text (literal (word_at words 5)))
    else Err 2

-- field FLAGS NAME DESC, and its value
unfoldable pub field_line : List (List ℕ) → Read Statement
field_line words = check (is_member words) 2 (do
  v ← value_of words
  Ok (statement.Field (record { flags = four_hex (word_at words 1); name = word_at words 2; descriptor = word_at words 3; value = v })))

-- nothing, or STACK LOCALS
unfoldable pub room_of : List (List ℕ) → Read (Option Room)
room_of words =
    if length words == 4 then Ok None
    else (do
      stack ← spelled (word_at words 4)
      locals ← spelled (word_at words 5)
      check (is_within 0 0xffff stack && is_within 0 0xffff locals) 3
          (Ok (Some (record { max_stack = stack.magnitude; max_locals = locals.magnitude }))))

-- method FLAGS NAME DESC, and the room of its code
unfoldable pub method_line : List (List ℕ) → Read Statement
method_line words = check (is_member words) 2 (do
  room ← room_of words
  Ok (statement.Method (record { flags = four_hex (word_at words 1); name = word_at words 2; descriptor = word_at words 3; room = room })))

-- ---- the lines of a body

unfoldable pub end_line : List (List ℕ) → Read Statement
end_line words = check (length words == 1) 2 (Ok statement.End)

-- catch START END HANDLER CLASS, where CLASS may be any
unfoldable pub catch_line : List (List ℕ) → Read Statement
catch_line words = check (length words == 5) 2
    (Ok (statement.Catch (record { start = word_at words 1; end = word_at words 2; handler = word_at words 3; class = if is_word words 4 (codes "any") then None else Some (word_at words 4) })))

-- a word before a last colon
abbrev pub is_label : List ℕ → Bool
is_label word = nat_lt 1 (length word) && slice_index word (length word - 1) == 58

unfoldable pub label_line : List (List ℕ) → Read Statement
label_line words = check (length words == 1) 2 (Ok (statement.Label (take (length (word_at words 0) - 1) (word_at words 0))))

unfoldable pub instruction_line : List (List ℕ) → Read Statement
instruction_line words = given (opcode_of (word_at words 0))
  where
    given : Option ℕ → Read Statement
    given None = Err 1
    given (Some op) = operand_of op words >>= λ o. Ok (statement.Instruction (record { opcode = op; wide = false; operand = o }))

unfoldable pub wide_line : List (List ℕ) → Read Statement
wide_line words = check (nat_le 2 (length words)) 2 (given (opcode_of (word_at words 1)))
  where
    given : Option ℕ → Read Statement
    given None = Err 1
    given (Some op) = wide_operand_of op words >>= λ o. Ok (statement.Instruction (record { opcode = op; wide = true; operand = o }))

-- ---- all lines

-- the words with which a part of a class begins
abbrev pub is_part : List ℕ → Bool
is_part word =
    bytes_eq word (codes "version") || bytes_eq word (codes "class") || bytes_eq word (codes "implements")
    || bytes_eq word (codes "field") || bytes_eq word (codes "method")

unfoldable pub part_line : List (List ℕ) → Read Statement
part_line words =
    if is_word words 0 (codes "version") then version_line words
    else if is_word words 0 (codes "class") then class_line words
    else if is_word words 0 (codes "implements") then implements_line words
    else if is_word words 0 (codes "field") then field_line words
    else method_line words

unfoldable pub body_line : List (List ℕ) → Read Statement
body_line words =
    if is_word words 0 (codes "end") then end_line words
    else if is_word words 0 (codes "catch") then catch_line words
    else if is_word words 0 (codes "wide") then wide_line words
    else if is_label (word_at words 0) then label_line words
    else instruction_line words

unfoldable pub line_said : List (List ℕ) → Read Statement
line_said words = if is_part (word_at words 0) then part_line words else body_line words

-- ---- texts

-- `ldc string` and `ldc_w string`
abbrev pub loads_text : List (List ℕ) → Bool
loads_text words = (is_word words 0 (codes "ldc") || is_word words 0 (codes "ldc_w")) && is_word words 1 (codes "string")

-- a field's descriptor and `string`
abbrev pub gives_text : List (List ℕ) → Bool
gives_text words = is_word words 0 (codes "field") && is_word words 4 (codes "string")

-- the place of the one word that is to be a text, or the place behind the last one
abbrev pub text_place : List (List ℕ) → ℕ
text_place words = if loads_text words then 2 else if gives_text words then 5 else length words

-- a text stands where none is expected
unfoldable pub has_stray_text : List (List ℕ) → Bool
has_stray_text words = list_any begins_text (take (text_place words) words) || list_any begins_text (drop (text_place words + 1) words)

-- what was said is refused, with the lesser one of two reasons
abbrev pub refused_too : ℕ → Read Statement → Read Statement
refused_too reason (Ok s) = Err reason
refused_too reason (Err e) = Err (min e reason)

abbrev pub statement_of : List (List ℕ) → Read Statement
statement_of words = if has_stray_text words then refused_too 2 (line_said words) else line_said words
