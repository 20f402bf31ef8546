-- The derived order of what calls come to is exact.
use Rattle.std.specs.Prelude.{◌≡◌, refl}
use Rattle.std.proofs.lemmas.Map.Lookups.{exact_unsigned}
use Rattle.std.specs.declared.cmp.Ordering.{Ordering}
use Rattle.std.specs.declared.cmp.Ordering.TheVariants.{Equal}
use Rattle.vx_value.specs.declared.ids.MethodId.{MethodId}
use Rattle.vx_invoke.specs.declared.call.Call.{Call}
use Rattle.vx_invoke.specs.declared.call.Call.TheVariants.{Abstract, Enter, Illegal, Missing, Native, Null, WrongKind}
use Rattle.vx_invoke.specs.contracts.call.CallOrd.TheImpl as call_ord

-- by variant, then by the method
abbrev pub call_cmp : Call → Call → Ordering
call_cmp = call_ord.ghosts.cmp

method_numbered : (method : MethodId → Call) → (a b : MethodId) → a.0 ≡ b.0 → method a ≡ method b
method_numbered method a b h = λ i. method (record { 0 = h i })

pub call_exact : (a b : Call) → call_cmp a b ≡ Equal → a ≡ b
call_exact Illegal Illegal h = refl
call_exact Null Null h = refl
call_exact WrongKind WrongKind h = refl
call_exact Abstract Abstract h = refl
call_exact (Missing a) (Missing b) h = method_numbered Missing a b (exact_unsigned a.0 b.0 h)
call_exact (Native a) (Native b) h = method_numbered Native a b (exact_unsigned a.0 b.0 h)
call_exact (Enter a) (Enter b) h = method_numbered Enter a b (exact_unsigned a.0 b.0 h)
call_exact _ _ h = cc
