-- The derived orders of plain values are exact.
use Rattle.std.specs.Prelude.{◌≡◌, refl}
use Rattle.std.proofs.Common.{ap}
use Rattle.std.proofs.lemmas.Map.Lookups.{exact_unsigned, exact_signed}
use Rattle.std.specs.declared.cmp.Ordering.{Ordering}
use Rattle.std.specs.declared.cmp.Ordering.TheVariants.{Equal}
use Rattle.vx_value.specs.declared.slot.Slot.{Slot}
use Rattle.vx_value.specs.declared.slot.Slot.TheVariants.{Top, Int, Long, Null, Ref, Text}
use Rattle.vx_value.specs.declared.slot.InitState.{InitState}
use Rattle.vx_value.specs.declared.slot.InitState.TheVariants.{Not, Running, Done, Failed}
use Rattle.vx_value.specs.contracts.slot.SlotOrd.TheImpl as slot_ord
use Rattle.vx_value.specs.contracts.slot.InitStateOrd.TheImpl as init_ord

-- the orders of the two types: by variant, then by what it holds
abbrev pub slot_cmp : Slot → Slot → Ordering
slot_cmp = slot_ord.ghosts.cmp

abbrev pub init_state_cmp : InitState → InitState → Ordering
init_state_cmp = init_ord.ghosts.cmp

pub slot_exact : (a b : Slot) → slot_cmp a b ≡ Equal → a ≡ b
slot_exact Top Top h = refl
slot_exact (Int a) (Int b) h = ap Int (exact_signed a b h)
slot_exact (Long a) (Long b) h = ap Long (exact_signed a b h)
slot_exact Null Null h = refl
slot_exact (Ref a) (Ref b) h = ap Ref (exact_unsigned a b h)
slot_exact (Text a) (Text b) h = ap Text (exact_unsigned a b h)
slot_exact _ _ h = cc

pub init_state_exact : (a b : InitState) → init_state_cmp a b ≡ Equal → a ≡ b
init_state_exact Not Not h = refl
init_state_exact Running Running h = refl
init_state_exact Done Done h = refl
init_state_exact Failed Failed h = refl
init_state_exact _ _ h = cc
