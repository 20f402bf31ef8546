-- The derived order of calls is exact.
use Rattle.std.specs.Prelude.{◌≡◌, refl}
use Rattle.std.proofs.Common.{ap}
use Rattle.std.specs.Ordering.{ordering_then}
use Rattle.std.specs.declared.cmp.Ordering.{Ordering}
use Rattle.std.specs.declared.cmp.Ordering.TheVariants.{Equal}
use Rattle.vx_value.specs.Exact.{then_first, then_second}
use Rattle.vx_value.specs.Slot.{slot_cmp, slot_exact}
use Rattle.vx_value.specs.declared.slot.Slot.{Slot}
use Rattle.vx_natives.specs.declared.call.Call.{Call}
use Rattle.vx_natives.specs.declared.call.Call.TheVariants.{Five, Four, Illegal, Nothing, One, Three, Two}
use Rattle.vx_natives.specs.contracts.call.CallOrd.TheImpl as call_ord

-- by how many values there are, then by the values in order
abbrev pub call_cmp : Call → Call → Ordering
call_cmp = call_ord.ghosts.cmp

-- two values in order
two_exact : (a b p q : Slot) → ordering_then (slot_cmp a p) (slot_cmp b q) ≡ Equal → (a ≡ p) × (b ≡ q)
two_exact a b p q h = (slot_exact a p (then_first (slot_cmp a p) (slot_cmp b q) h), slot_exact b q (then_second (slot_cmp a p) (slot_cmp b q) h))

-- one before others
one_before : (a p : Slot) (others : Ordering) → ordering_then (slot_cmp a p) others ≡ Equal → (a ≡ p) × (others ≡ Equal)
one_before a p others h = (slot_exact a p (then_first (slot_cmp a p) others h), then_second (slot_cmp a p) others h)

pub call_exact : (a b : Call) → call_cmp a b ≡ Equal → a ≡ b
call_exact Illegal Illegal h = refl
call_exact Nothing Nothing h = refl
call_exact (One a) (One p) h = ap One (slot_exact a p h)
call_exact (Two a b) (Two p q) h =
    let all = two_exact a b p q h in
    λ i. Two (all.0 i) (all.1 i)
call_exact (Three a b c) (Three p q r) h =
    let first = one_before a p (ordering_then (slot_cmp b q) (slot_cmp c r)) h in
    let rest = two_exact b c q r first.1 in
    λ i. Three (first.0 i) (rest.0 i) (rest.1 i)
call_exact (Four a b c d) (Four p q r s) h =
    let first = one_before a p (ordering_then (slot_cmp b q) (ordering_then (slot_cmp c r) (slot_cmp d s))) h in
    let second = one_before b q (ordering_then (slot_cmp c r) (slot_cmp d s)) first.1 in
    let rest = two_exact c d r s second.1 in
    λ i. Four (first.0 i) (second.0 i) (rest.0 i) (rest.1 i)
call_exact (Five a b c d e) (Five p q r s t) h =
    let first = one_before a p (ordering_then (slot_cmp b q) (ordering_then (slot_cmp c r) (ordering_then (slot_cmp d s) (slot_cmp e t)))) h in
    let second = one_before b q (ordering_then (slot_cmp c r) (ordering_then (slot_cmp d s) (slot_cmp e t))) first.1 in
    let third = one_before c r (ordering_then (slot_cmp d s) (slot_cmp e t)) second.1 in
    let rest = two_exact d e s t third.1 in
    λ i. Five (first.0 i) (second.0 i) (third.0 i) (rest.0 i) (rest.1 i)
call_exact _ _ h = cc
