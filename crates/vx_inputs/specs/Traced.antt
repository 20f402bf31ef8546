-- What `replay` and `trace` take from a class file: its class, the lines of its methods, and the name of its source file.
use Rattle.std.specs.Prelude.{Err, List, None, Ok, Option, [], map, option_and_then, ℕ, ◌≡◌}
use Rattle.std.specs.declared.result.Result.{Result}
use Rattle.vx_class.specs.Class.{class_of}
use Rattle.vx_class.specs.declared.class_file.ClassFile.{ClassFile}
use Rattle.vx_pool.specs.Lookups.{text}
use Rattle.vx_pool.specs.Reading.{Fault, ◌>>=◌}
use Rattle.vx_inputs.specs.declared.taken.Parts.{Parts}
use Rattle.vx_inputs.specs.declared.taken.Traced.{Traced}
use Rattle.vx_lines.specs.Sources.{source_of}
use Rattle.vx_lines.specs.Tables.{lines_of}
use Rattle.vx_lines.specs.declared.table.LineTable.{LineTable}
use Rattle.vx_lines.specs.declared.table.MethodLines.{MethodLines}
use Rattle.vx_pool.specs.declared.pool.Pool.{Pool}

-- the lines of the methods of a class; the bytes of a class file that was read always give them
abbrev pub table_of : Result (List MethodLines) Fault → LineTable
table_of (Ok methods) = record { methods = methods }
table_of (Err fault) = record { methods = [] }

-- the name of its source file, by its index; they always give that too
abbrev pub file_of : Pool → Result (Option ℕ) Fault → Option (List ℕ)
file_of pool (Ok index) = option_and_then (text pool) index
file_of pool (Err fault) = None

abbrev pub with_source : List ℕ → ClassFile → Traced
with_source bytes class =
    record { class = class; lines = table_of (lines_of bytes class.pool); file = file_of class.pool (source_of bytes class.pool) }

-- the class that the bytes of a class file spell, with what they say of its source, or the first check that fails
abbrev pub traced_of : List ℕ → Result Traced Fault
traced_of bytes = class_of bytes >>= λ class. Ok (with_source bytes class)

-- classes, and beside each what is said of its source
pub record ArePartsOf (all : List Traced) (parts : Parts) : Type 0 where
  pub classes : parts.classes.items ≡ map (λ traced. traced.class) all
  pub tables : parts.tables.items ≡ map (λ traced. traced.lines) all
  pub files : parts.files.items ≡ map (λ traced. traced.file) all
