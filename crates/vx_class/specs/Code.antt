-- The code of a method.
use Rattle.std.specs.Prelude.{ℕ, ◌+◌, List, [], ◌∷◌, length, Bool, Option, Some, None, Result, Ok, is_some, nat_lt, nat_le, ◌==◌, ◌&&◌, ◌||◌}
use Rattle.vx_pool.specs.declared.pool.Pool.{Pool}
use Rattle.vx_pool.specs.Place.{Place}
use Rattle.vx_pool.specs.Reading.{Fault, Read, ◌>>=◌, check, refuse, number, room, bytes, steps, items}
use Rattle.vx_class.specs.declared.class_file.Code.{Code}
use Rattle.vx_class.specs.declared.class_file.Catch.{Catch}
use Rattle.vx_class.specs.declared.code.Parts.{Parts}
use Rattle.vx_pool.specs.Lookups.{entry_of, utf8, class}
use Rattle.vx_pool.specs.Checks.{first_failing, each}
use Rattle.vx_pool.specs.Entries.{usable}
use Rattle.vx_pool.specs.Instructions.{starts_of, is_start, jumps_checked}

-- ---- attributes

-- the text of an entry, at an index that stands at a place
abbrev pub text_given : Option (List ℕ) → ℕ → ℕ → Place → Read (ℕ × List ℕ)
text_given None at i s = refuse at 6
text_given (Some text) at i s = Ok ((i, text), s)

-- the index of a text, and the text
unfoldable pub utf8_at : Pool → Place → Read (ℕ × List ℕ)
utf8_at pool s = do
  index ← number 2 s
  check (usable pool index.0) s.at 5 (text_given (utf8 (entry_of pool index.0)) s.at index.0 index.1)

-- a length, and so many bytes
unfoldable pub content_at : Place → Read (List ℕ)
content_at s = do
  len ← number 4 s
  bytes len.0 len.1

-- an attribute that is passed over
unfoldable pub skipped_at : Pool → Place → Read (Unit {0})
skipped_at pool s = do
  name ← utf8_at pool s
  content ← content_at name.1
  Ok (tt, content.1)

abbrev pub skip_step : Pool → Unit {0} → Place → Read (Unit {0})
skip_step pool done s = skipped_at pool s

-- attributes that are passed over
unfoldable pub all_skipped_at : Pool → Place → Read (Unit {0})
all_skipped_at pool s = do
  count ← number 2 s
  steps (skip_step pool) tt count.0 count.1

-- ---- code

unfoldable pub catch_at : Place → Read Catch
catch_at s = do
  start ← number 2 s
  end ← number 2 start.1
  handler ← number 2 end.1
  class ← number 2 handler.1
  Ok (record { start = start.0; end = end.0; handler = handler.0; class = class.0 }, class.1)

unfoldable pub catches_at : Place → Read (List Catch)
catches_at s = do
  count ← number 2 s
  items catch_at count.0 count.1

-- a catch row: it covers something, its places are places of instructions, and it names a class or nothing
abbrev pub catch_checks : Pool → List ℕ → List ℕ → Catch → List (Bool × ℕ)
catch_checks pool starts code row = (
  nat_lt row.start row.end && nat_le row.end (length code)
      && is_start starts row.start && is_start starts row.handler && (is_start starts row.end || row.end == length code),
  12,
)
    ∷ (row.class == 0 || usable pool row.class, 5)
    ∷ (row.class == 0 || is_some (class (entry_of pool row.class)), 6)
    ∷ []

abbrev pub row_checked : Pool → List ℕ → List ℕ → Catch → ℕ → Result (Unit {0}) Fault
row_checked pool starts code row at = first_failing at (catch_checks pool starts code row)

-- the rows, the first of which stands at a place
abbrev pub catches_checked : Pool → List ℕ → List ℕ → List Catch → ℕ → Result (Unit {0}) Fault
catches_checked pool starts code rows at = each (row_checked pool starts code) (λ _. 8) rows at

-- the content of a code attribute, which has room for the argument slots
unfoldable pub parts_at : Pool → ℕ → Place → Read Parts
parts_at pool slots s = do
  max_stack ← number 2 s
  max_locals ← number 2 max_stack.1
  check (nat_le slots max_locals.0) max_stack.1.at 12 (do
    len ← number 4 max_locals.1
    check (nat_lt 0 len.0 && nat_lt len.0 65536) max_locals.1.at 9 (do
      code ← bytes len.0 len.1
      catches ← catches_at code.1
      rest ← all_skipped_at pool catches.1
      Ok (
        record {
          code = record { max_stack = max_stack.0; max_locals = max_locals.0; bytes = code.0; catches = catches.0 };
          base = len.1.at;
          rows = code.1.at + 2;
        },
        rest.1,
      )))

-- the checks of instructions, then of jumps, then of catch rows
unfoldable pub code_checked : Pool → ℕ → Parts → Result (Unit {0}) Fault
code_checked pool major parts = do
  starts ← starts_of pool major parts.code.max_locals parts.code.bytes parts.base
  _ ← jumps_checked starts parts.code.bytes parts.base
  catches_checked pool starts parts.code.bytes parts.code.catches parts.rows

-- a code attribute whose name stands at a place; the content fills its length
unfoldable pub code_at : Pool → ℕ → ℕ → ℕ → Place → Read Code
code_at pool major slots at s = do
  len ← number 4 s
  _ ← room len.0 len.1
  parts ← parts_at pool slots len.1
  check (parts.1.at == len.1.at + len.0) at 12 (do
    _ ← code_checked pool major parts.0
    Ok (parts.0.code, parts.1))
