-- Numbers of no native method.
use Rattle.std.proofs.Common.{◌≡◌, ℕ, ◌<◌, ◌≤◌, List, arith, ap, refl, sym, zero, suc}
use Rattle.std.specs.Prelude.{unwrap_or}
use Rattle.std.proofs.lemmas.Option.{slice_get_past}
use Rattle.vx_java.specs.Machine.{Here, Value, illegal}
use Rattle.vx_java.specs.Natives.{native_methods, native_of, no_native}

pub no_method : (h : Here) (values rest : List Value) (number : ℕ) → 92 < number → illegal h ≡ native_of number h values rest
no_method h values rest zero lt = refl
no_method h values rest (suc n) lt = ap (λ found. unwrap_or found no_native h values rest) (sym (slice_get_past native_methods n le))
  where
    le : 92 ≤ n
    le = omega (arith, lt)
