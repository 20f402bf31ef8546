-- The line of a position in the code of a method (JVMS 4.7.12; that the last of equal rows counts is own).
use Rattle.std.specs.Prelude.{ℕ, List, [], ◌∷◌, Option, Some, None, nat_le, option_and_then, option_map, slice_get, if◌then◌else◌}
use Rattle.vx_lines.specs.declared.table.LineRow.{LineRow}
use Rattle.vx_lines.specs.declared.table.LineTable.{LineTable}

-- a row that starts at a position or before it
abbrev pub reaching : ℕ → LineRow → Option LineRow
reaching position row = if nat_le row.start position then Some row else None

-- of two rows the one that starts later, and of two that start at one place the second
abbrev pub later : Option LineRow → Option LineRow → Option LineRow
later None b = b
later (Some a) None = Some a
later (Some a) (Some b) = if nat_le a.start b.start then Some b else Some a

-- of the rows that start at a position or before it the last one of the greatest start
abbrev pub row_for : List LineRow → ℕ → Option LineRow
row_for [] position = None
row_for (row ∷ rows) position = later (reaching position row) (row_for rows position)

abbrev pub line_at : List LineRow → ℕ → Option ℕ
line_at rows position = option_map (λ row. row.line) (row_for rows position)

-- that of a method by its place in the class; none where the class has no such method
abbrev pub line_in : LineTable → (method position : ℕ) → Option ℕ
line_in table method position = option_and_then (λ m. line_at m.rows position) (slice_get table.methods method)
