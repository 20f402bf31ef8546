-- The derived order of rises is exact.
use Rattle.std.specs.Prelude.{◌≡◌, refl}
use Rattle.std.proofs.Common.{ap}
use Rattle.std.proofs.lemmas.Map.Lookups.{exact_unsigned}
use Rattle.std.specs.declared.cmp.Ordering.{Ordering}
use Rattle.std.specs.declared.cmp.Ordering.TheVariants.{Equal}
use Rattle.vx_init.specs.declared.rise.Rise.{Rise}
use Rattle.vx_init.specs.declared.rise.Rise.TheVariants.{Open, Begins, Fails, Blocked}
use Rattle.vx_init.specs.contracts.rise.RiseOrd.TheImpl as rise_ord

-- by variant, then by what it holds
abbrev pub rise_cmp : Rise → Rise → Ordering
rise_cmp = rise_ord.ghosts.cmp

pub rise_exact : (a b : Rise) → rise_cmp a b ≡ Equal → a ≡ b
rise_exact Open Open h = refl
rise_exact (Begins a) (Begins b) h = ap Begins (exact_unsigned a b h)
rise_exact (Fails a) (Fails b) h = ap Fails (exact_unsigned a b h)
rise_exact (Blocked a) (Blocked b) h = let class = exact_unsigned a.0 b.0 h in λ i. Blocked (record { 0 = class i })
rise_exact _ _ h = cc
