-- Bytes that have no row.
use Rattle.std.proofs.Common.{◌≡◌, ℕ, ◌<◌, List, [], ◌∷◌, length, refl, arith}
use Rattle.vx_lines.specs.Tables.{rows_in, table_rows}

pub no_row : (bytes : List ℕ) → length bytes < 4 → rows_in bytes ≡ []
no_row [] lt = refl
no_row (a ∷ []) lt = refl
no_row (a ∷ b ∷ []) lt = refl
no_row (a ∷ b ∷ c ∷ []) lt = refl
no_row (a ∷ b ∷ c ∷ d ∷ rest) lt = absurd (omega arith)

pub no_table : (content : List ℕ) → length content < 2 → table_rows content ≡ []
no_table [] lt = refl
no_table (a ∷ []) lt = refl
no_table (a ∷ b ∷ rest) lt = absurd (omega arith)
