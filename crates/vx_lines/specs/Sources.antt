-- The source file of a class (JVMS 4.7.10; that the last one counts, and that one of another form names none, is own).
use Rattle.std.specs.Prelude.{ℕ, ◌+◌, ◌*◌, List, [], ◌∷◌, Option, Some, None, Result, Ok, codes, if◌then◌else◌, option_and_then, ◌≡◌}
use Rattle.vx_pool.specs.Place.{Place, start}
use Rattle.vx_pool.specs.Reading.{Fault, Read, ◌>>=◌, number, steps}
use Rattle.vx_pool.specs.declared.pool.Pool.{Pool}
use Rattle.vx_pool.specs.Lookups.{text}
use Rattle.vx_class.specs.Members.{is_text_of}
use Rattle.vx_lines.specs.Tables.{attribute_at, methods_at}

-- the index in a content of two bytes; one of another length has none
abbrev pub index_in : List ℕ → Option ℕ
index_in (a ∷ b ∷ []) = Some (256 * a + b)
index_in _ = None

-- behind an attribute of the class
abbrev pub with_index : Pool → Option ℕ → ℕ × List ℕ → Option ℕ
with_index pool front a = if is_text_of pool a.0 (codes "SourceFile") then index_in a.1 else front

abbrev pub file_step : Pool → Option ℕ → Place → Read (Option ℕ)
file_step pool front s = attribute_at s >>= λ a. Ok (with_index pool front a.0, a.1)

-- behind the methods of the class its attributes stand
unfoldable pub sources_at : Pool → Place → Read (Option ℕ)
sources_at pool s = do
  methods ← methods_at pool s
  count ← number 2 methods.1
  steps (file_step pool) None count.0 count.1

-- the index of the name of the source file
unfoldable pub source_of : List ℕ → Pool → Result (Option ℕ) Fault
source_of file pool = sources_at pool (start file) >>= λ found. Ok found.0

-- a name is the text of the index that was read
abbrev pub IsName : Pool → Result (Option ℕ) Fault → Option (List ℕ) → Type 0
IsName pool found name = (found >>= λ index. Ok (option_and_then (text pool) index)) ≡ Ok name
