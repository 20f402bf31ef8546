-- Places: their derived order is exact.
use Rattle.std.specs.Prelude.{◌≡◌, Bool, true, false, refl}
use Rattle.std.proofs.Common.{ap}
use Rattle.std.proofs.lemmas.Map.Lookups.{exact_signed, exact_unsigned}
use Rattle.std.specs.Ordering.{nat_cmp}
use Rattle.std.specs.declared.cmp.Ordering.{Ordering}
use Rattle.std.specs.declared.cmp.Ordering.TheVariants.{Equal}
use Rattle.vx_value.specs.Exact.{then_first, then_second}
use Rattle.vx_cells.specs.declared.place.Place.{Place}
use Rattle.vx_cells.specs.declared.place.Place.TheVariants.{At, Illegal, Null, Outside, Refused}
use Rattle.vx_cells.specs.contracts.place.PlaceOrd.TheImpl as place_ord

-- by variant, then by what it holds
abbrev pub place_cmp : Place → Place → Ordering
place_cmp = place_ord.ghosts.cmp

pub place_exact : (a b : Place) → place_cmp a b ≡ Equal → a ≡ b
place_exact Illegal Illegal h = refl
place_exact Null Null h = refl
place_exact (Outside a) (Outside b) h = ap Outside (exact_signed a b h)
place_exact Refused Refused h = refl
place_exact (At a m) (At b n) h =
    let object = exact_unsigned a b (then_first (nat_cmp a b) (nat_cmp m n) h) in
    let cell = exact_unsigned m n (then_second (nat_cmp a b) (nat_cmp m n) h) in
    λ i. At (object i) (cell i)
place_exact _ _ h = cc

-- a place where a rule holds
abbrev pub place_if : Place → Bool → Place
place_if place true = place
place_if place false = Illegal
