-- The line tables of a class file (JVMS 4.7.12), as they stand in its bytes.
use Rattle.std.specs.Prelude.{ℕ, ◌+◌, ◌*◌, ◌==◌, List, [], ◌∷◌, ◌++◌, length, Result, Ok, codes, if◌then◌else◌}
use Rattle.vx_pool.specs.Place.{Place, start}
use Rattle.vx_pool.specs.Reading.{Fault, Read, ◌>>=◌, number, bytes, steps, items}
use Rattle.vx_pool.specs.declared.pool.Pool.{Pool}
use Rattle.vx_pool.specs.Pool.{pool_at}
use Rattle.vx_class.specs.Code.{content_at}
use Rattle.vx_class.specs.Members.{is_text_of}
use Rattle.vx_lines.specs.declared.table.LineRow.{LineRow}
use Rattle.vx_lines.specs.declared.table.MethodLines.{MethodLines}

-- ---- the rows of a table

-- the rows in some bytes: each is a start and a line, of two bytes each
abbrev pub rows_in : List ℕ → List LineRow
rows_in (a ∷ b ∷ c ∷ d ∷ rest) = record { start = 256 * a + b; line = 256 * c + d } ∷ rows_in rest
rows_in _ = []

-- the rows of a table: a count, and so many rows behind it; a table of another length is passed over
abbrev pub table_rows : List ℕ → List LineRow
table_rows (a ∷ b ∷ rest) = if length rest == 4 * (256 * a + b) then rows_in rest else []
table_rows _ = []

-- ---- attributes

-- the index of a name, and a content behind its length
unfoldable pub attribute_at : Place → Read (ℕ × List ℕ)
attribute_at s = do
  name ← number 2 s
  content ← content_at name.1
  Ok ((name.0, content.0), content.1)

-- one that is passed over
abbrev pub pass_step : Unit {0} → Place → Read (Unit {0})
pass_step done s = attribute_at s >>= λ a. Ok (tt, a.1)

-- one inside of code: where it is a line table, its rows stand behind those before it
abbrev pub with_rows : Pool → List LineRow → ℕ × List ℕ → List LineRow
with_rows pool front a = if is_text_of pool a.0 (codes "LineNumberTable") then front ++ table_rows a.1 else front

abbrev pub table_step : Pool → List LineRow → Place → Read (List LineRow)
table_step pool front s = attribute_at s >>= λ a. Ok (with_rows pool front a.0, a.1)

-- ---- members

-- the content of code, in which the greatest sizes, the bytes and the catch rows stand before the attributes
unfoldable pub code_at : Pool → List LineRow → Place → Read (List LineRow)
code_at pool front s = do
  sizes ← bytes 4 s
  code ← content_at sizes.1
  catches ← number 2 code.1
  passed ← bytes (8 * catches.0) catches.1
  count ← number 2 passed.1
  steps (table_step pool) front count.0 count.1

-- the content of an attribute whose name is known: code gives the rows of its tables
unfoldable pub content_rows_at : Pool → List LineRow → ℕ → Place → Read (List LineRow)
content_rows_at pool front name s = do
  len ← number 4 s
  if is_text_of pool name (codes "Code") then code_at pool front len.1 else (bytes len.0 len.1 >>= λ c. Ok (front, c.1))

-- an attribute of a method
unfoldable pub method_step : Pool → List LineRow → Place → Read (List LineRow)
method_step pool front s = do
  name ← number 2 s
  content_rows_at pool front name.0 name.1

-- a method, behind whose flags, name and descriptor its attributes stand
unfoldable pub method_at : Pool → Place → Read MethodLines
method_at pool s = do
  member ← bytes 6 s
  count ← number 2 member.1
  rows ← steps (method_step pool) [] count.0 count.1
  Ok (record { rows = rows.0 }, rows.1)

unfoldable pub field_at : Place → Read (Unit {0})
field_at s = do
  member ← bytes 6 s
  count ← number 2 member.1
  steps pass_step tt count.0 count.1

abbrev pub field_step : Unit {0} → Place → Read (Unit {0})
field_step done s = field_at s

-- ---- the class

-- the magic number and the versions, the pool, the flags and the two classes, and the interfaces
unfoldable pub head_at : Place → Read (Unit {0})
head_at s = do
  versions ← bytes 8 s
  pool ← pool_at versions.1
  classes ← bytes 6 pool.1
  count ← number 2 classes.1
  interfaces ← bytes (2 * count.0) count.1
  Ok (tt, interfaces.1)

unfoldable pub methods_at : Pool → Place → Read (List MethodLines)
methods_at pool s = do
  head ← head_at s
  field_count ← number 2 head.1
  fields ← steps field_step tt field_count.0 field_count.1
  count ← number 2 fields.1
  items (method_at pool) count.0 count.1

-- what the bytes of a class say of the lines of its methods, in their order
unfoldable pub lines_of : List ℕ → Pool → Result (List MethodLines) Fault
lines_of file pool = methods_at pool (start file) >>= λ methods. Ok methods.0
