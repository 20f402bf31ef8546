-- Tests that are joined.
use Rattle.std.proofs.Common.{Bool, true, false, inl, inr, refl, sym, ◌⊎◌, ◌≡◌}
use Rattle.std.specs.Prelude.{◌&&◌, ◌||◌}

pub either : (a b : Bool) → (a || b) ≡ true → (a ≡ true) ⊎ (b ≡ true)
either true b h = inl refl
either false b h = inr h

pub or_first : (a b : Bool) → a ≡ true → (a || b) ≡ true
or_first true b h = refl
or_first false b h = absurd cc

pub or_second : (a b : Bool) → b ≡ true → (a || b) ≡ true
or_second true b h = refl
or_second false b h = h

pub both_first : (a b : Bool) → (a && b) ≡ true → a ≡ true
both_first true b h = refl
both_first false b h = absurd cc

pub both_second : (a b : Bool) → (a && b) ≡ true → b ≡ true
both_second true b h = h
both_second false b h = absurd cc

pub both : (a b : Bool) → a ≡ true → b ≡ true → (a && b) ≡ true
both true b h k = k
both false b h k = absurd cc

-- a test that holds and does not
pub not_both : {P : Type 0} (a : Bool) → a ≡ true → a ≡ false → P
not_both a h k = absurd cc

-- the second of two tests is none
pub or_only : (a b : Bool) → b ≡ false → a ≡ (a || b)
or_only true b h = refl
or_only false b h = sym h
