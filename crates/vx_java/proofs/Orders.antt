-- Pieces and numbers that compare equal are equal.
use Rattle.std.proofs.Common.{◌≡◌, ℕ, ap, arith}
use Rattle.std.proofs.lemmas.Bool.Decides.{nat_tests}
use Rattle.std.proofs.lemmas.Map.Lookups.{exact_bytes}
use Rattle.std.specs.declared.cmp.Ordering.TheVariants.{Equal}
use Rattle.std.specs.Ordering.{nat_cmp}
use Rattle.vx_value.specs.declared.end.Stream.TheVariants.{Out, Err}
use Rattle.vx_java.specs.Lockstep.{Piece, compare_pieces}

pub nat_equal : (a b : ℕ) → nat_cmp a b ≡ Equal → a ≡ b
nat_equal a b h = grind (arith, nat_tests)

pub piece_equal : (a b : Piece) → compare_pieces a b ≡ Equal → a ≡ b
piece_equal (Out, x) (Out, y) h = ap (λ t. (Out, t)) (exact_bytes x y h)
piece_equal (Err, x) (Err, y) h = ap (λ t. (Err, t)) (exact_bytes x y h)
piece_equal (Out, x) (Err, y) h = cc
piece_equal (Err, x) (Out, y) h = cc
