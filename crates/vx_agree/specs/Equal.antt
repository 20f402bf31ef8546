-- Equal outputs, as bytes on streams, and what two texts have in common at their front.
use Rattle.std.specs.Prelude.{ℕ, suc, Bool, true, false, List, [], ◌∷◌, drop, ◌&&◌, nat_eq, if◌then◌else◌}
use Rattle.vx_report.specs.Projection.{same_stream}
use Rattle.vx_report.specs.declared.report.Piece.{Piece}
use Rattle.vx_value.specs.declared.end.Stream.{Stream}

abbrev pub same_symbol : Stream × ℕ → Stream × ℕ → Bool
same_symbol x y = same_stream x.0 y.0 && nat_eq x.1 y.1

abbrev pub are_equal : List (Stream × ℕ) → List (Stream × ℕ) → Bool
are_equal [] [] = true
are_equal [] (y ∷ ys) = false
are_equal (x ∷ xs) [] = false
are_equal (x ∷ xs) (y ∷ ys) = same_symbol x y && are_equal xs ys

-- how many bytes are the same at the front
abbrev pub common : List ℕ → List ℕ → ℕ
common [] ys = 0
common (x ∷ xs) [] = 0
common (x ∷ xs) (y ∷ ys) = if nat_eq x y then suc (common xs ys) else 0

-- how many bytes of two pieces are the same, from a byte of each on
abbrev pub common_from : Piece → ℕ → Piece → ℕ → ℕ
common_from one from other other_from = if same_stream one.stream other.stream then common (drop from one.text) (drop other_from other.text) else 0
