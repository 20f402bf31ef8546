-- Whether words have room.
use Rattle.std.proofs.Common.{◌≡◌, ℕ, ◌+◌, ◌-◌, ◌<◌, ◌≤◌, ◌∙◌, false, sym, inl, inr, arith}
use Rattle.std.specs.Prelude.{nat_le}
use Rattle.std.proofs.lemmas.Bool.{le-leb, lt-leb}
use Rattle.std.proofs.lemmas.Bool.Decides.{leb_tells}

pub over_full : (words width most : ℕ) → most < words → false ≡ nat_le (width + words) most
over_full words width most lt = sym (lt-leb (width + words) most (omega arith))

pub left_over : (words width most : ℕ) → words ≤ most → nat_le width (most - words) ≡ nat_le (width + words) most
left_over words width most le =
    elim (leb_tells width (most - words)) [
      | inl fits ↦ fits.0 ∙ sym (le-leb (width + words) most (omega (arith, fits.1)))
      | inr fails ↦ fails.0 ∙ sym (lt-leb (width + words) most (omega (arith, fails.1)))
    ]
