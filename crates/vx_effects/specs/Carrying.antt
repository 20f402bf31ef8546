-- Effects of native methods, carried out in the configurations of a condition with one answer (own).
use Rattle.std.specs.Prelude.{◌≡◌, ℤ, Bool, false, true, List, pos}
use Rattle.vx_group_states.specs.declared.answer.Answer.{Answer}
use Rattle.vx_heap.specs.Heap.{HeapView, IsHeap}
use Rattle.vx_link.specs.declared.program.Program.{Program}
use Rattle.vx_natives.specs.Deeds.{Deed, copies, deed_says, is_deed_held}
use Rattle.vx_natives.specs.Doing.{IsKept, IsSaid, Says, said_over}
use Rattle.vx_natives.specs.declared.effect.Effect.{Effect}
use Rattle.vx_natives.specs.declared.effect.Effect.TheVariants as effect
use Rattle.vx_space.specs.Sets.{Sets}

-- at each configuration of a condition one answer comes to what is said
pub record IsOneDone {S I : Type 0} (p : Program) (old new : Sets I) (before after : HeapView S I) (condition : I) (says : Says) (answer : Answer) : Type 0 where
  pub kept : IsKept old new before after (old.test condition)
  pub at : (c : List Bool) → old.test condition c ≡ true → IsSaid p new after c (said_over p old before says c) answer

-- the value of the Integer that an effect gives
abbrev pub integer_in : Effect → ℤ
integer_in (effect.GiveInteger n) = n
integer_in _ = pos 0

-- elements of an array are copied
abbrev pub is_copy : Deed → Bool
is_copy (copies array from other to count) = true
is_copy _ = false

-- what an effect names is there
pub record IsHeldIn {S I : Type 0} (sets : Sets I) (heap : HeapView S I) (condition : I) (deed : Deed) : Type 0 where
  pub held : (c : List Bool) → sets.test condition c ≡ true → is_deed_held sets heap c deed ≡ true

-- an effect was carried out, over any space
abbrev pub IsCarried : {S I : Type 0} → Program → (before after : HeapView S I) → (condition : I) → Deed → Answer → Type 0
IsCarried {I = I} p before after condition deed answer =
    (sets : Sets I) → IsHeap sets before → sets.is_known condition ≡ true → IsHeldIn sets before condition deed
    → IsOneDone p sets sets before after condition (deed_says sets before deed) answer
