-- What functions of slots give at a configuration, where they are lifted.
use Rattle.std.proofs.Common.{◌≡◌, Bool, true, List, refl, ◌∙◌, ap}
use Rattle.std.specs.Prelude.{Option, Some, None, is_some, if◌then◌else◌}
use Rattle.std.specs.declared.cmp.Ordering.{Ordering}
use Rattle.vx_value.specs.declared.slot.Slot.{Slot}
use Rattle.vx_value.specs.Slot.{slot_cmp}
use Rattle.vx_space.specs.Sets.{Sets}
use Rattle.vx_cond.specs.Cond.{Conditional, IsCond, IsCondLifting, IsCondOf, cond_at}
use Rattle.vx_cond.specs.Leaves.{IsLifted, value_within}
use Rattle.vx_cond.specs.Slots.{or_top, slot_at}
use Rattle.vx_cond.proofs.CondLaws.{cond_at-of}
use Rattle.vx_cond.proofs.SideLaws.{cond_at-covers}
use Rattle.vx_group_states.proofs.SettleLaws.{lifting_at}

lifted : {U : Type 0} (R : Slot → U → Type 0) (f : Slot → U) (a : Option Slot) (b : Option U) → ((a : Slot) (b : U) → R a b → b ≡ f a) → is_some a ≡ true → IsLifted R a b → b ≡ Some (f (or_top a))
lifted R f None b law t l = cc
lifted R f (Some a) None law t l = absurd l
lifted R f (Some a) (Some b) law t l = ap Some (law a b l)

-- what a mapped slot is
pub mapped_at : {U S I : Type 0} (cmp : U → U → Ordering) (s0 s1 : Sets I) (R : Slot → U → Type 0) (f : Slot → U) (cond : Conditional Slot S I) (made : Conditional U S I) → ((a : Slot) (b : U) → R a b → b ≡ f a) → IsCond slot_cmp s0 cond → IsCondLifting cmp s1 R (cond_at s0 cond) made → (c : List Bool) → s0.test cond.scope c ≡ true → cond_at s1 made c ≡ Some (f (slot_at s0 cond c))
mapped_at cmp s0 s1 R f cond made law v l c t = lifted R f (cond_at s0 cond c) (cond_at s1 made c) law (cond_at-covers slot_cmp s0 cond v c ∙ t) (lifting_at cmp s1 R (cond_at s0 cond) made l c)

chosen : {T : Type 0} (b : Bool) (v : T) → b ≡ true → (if b then Some v else None) ≡ Some v
chosen b v h = rw h refl

-- what one value in a scope is
pub one_at : {U S I : Type 0} (cmp : U → U → Ordering) (sets : Sets I) (scope : I) (value : U) (made : Conditional U S I) → IsCondOf cmp sets (value_within sets scope (λ _. Some value)) made → (c : List Bool) → sets.test scope c ≡ true → cond_at sets made c ≡ Some value
one_at cmp sets scope value made o c t = cond_at-of cmp sets (value_within sets scope (λ _. Some value)) made c o ∙ chosen (sets.test scope c) value t
