-- Exceptions that an attempt raises or throws are thrown out; what is neither raised nor thrown stays.
use Rattle.std.proofs.Common.{◌≡◌, true, List, [], ◌∷◌, ◌++◌, refl}
use Rattle.std.specs.Prelude.{◌≢◌, ℕ, Option}
use Rattle.std.specs.List.{list_all}
use Rattle.vx_space.specs.Sets.{Sets, IsLawful, IsKnown}
use Rattle.vx_cond.specs.Cond.{Conditional}
use Rattle.vx_group.specs.declared.callers.Caller.{Caller}
use Rattle.vx_group.specs.Group.{GroupView}
use Rattle.vx_heap.specs.Heap.{HeapView, IsHeap, IsHeapFor}
use Rattle.vx_link.specs.declared.program.Program.{Program}
use Rattle.vx_outcome.specs.Outcome.{condition_of}
use Rattle.vx_outcome.specs.declared.outcome.Outcome.{Outcome}
use Rattle.vx_outcome.specs.declared.outcome.Outcome.TheVariants as shared
use Rattle.vx_group_states.proofs.StateLaws.{both, both_first, both_second}
use Rattle.vx_standing.specs.Attempted.{is_placed, thrown_out}
use Rattle.vx_value.specs.declared.ids.ClassId.{ClassId}
use Rattle.vx_value.specs.declared.slot.Slot.{Slot}
use Rattle.vx_attempt.specs.Carrying.{AreCarriedOut, NoneUncarried}
use Rattle.vx_attempt.proofs.Carrying.{AreCarriedOut-plain, IsPlain, SomeUncarried-one}

-- ---- each outcome

-- what is neither raised nor thrown stays
abbrev pub IsKept : {S I : Type 0} → Outcome S I → Type 0
IsKept {S = S} {I = I} x = ((group : GroupView S I) (class : ClassId) (message : Option ℕ) → x ≢ shared.Raise group class message) × ((group : GroupView S I) (thrown : Conditional Slot S I) → x ≢ shared.Throw group thrown)

IsPlain-kept : {S I : Type 0} (p : Program) (x : Outcome S I) → IsKept x → IsPlain (thrown_out p) x
IsPlain-kept p (shared.Raise group class message) k = absurd (k.0 group class message refl)
IsPlain-kept p (shared.Throw group thrown) k = absurd (k.1 group thrown refl)
IsPlain-kept p (shared.Go group) k = λ sets heap tree c. refl
IsPlain-kept p (shared.Begin group class) k = λ sets heap tree c. refl
IsPlain-kept p (shared.Native group method) k = λ sets heap tree c. refl
IsPlain-kept p (shared.Write group stream text) k = λ sets heap tree c. refl
IsPlain-kept p (shared.Ended condition end) k = λ sets heap tree c. refl

pub AreCarriedOut-kept : {S I : Type 0} (p : Program) (sets : Sets I) (heap : HeapView S I) (tree : List (Option (Caller S I))) (x : Outcome S I) → IsHeap sets heap → IsHeapFor p heap → IsKept x → AreCarriedOut p (thrown_out p) sets sets heap heap tree tree (x ∷ []) (x ∷ [])
AreCarriedOut-kept p sets heap tree x v f k = AreCarriedOut-plain p (thrown_out p) sets heap tree x v f (IsPlain-kept p x k)

-- and it takes its place, where no configuration comes to a native method or a beginning
pub placed_other : {S I : Type 0} (p : Program) {sets : Sets I} → IsLawful sets → (heap : HeapView S I) (tree : List (Option (Caller S I))) (x : Outcome S I) → IsKnown sets (condition_of x) → condition_of x ≢ sets.never → IsKept x → NoneUncarried p sets heap tree (x ∷ []) → is_placed x ≡ true
placed_other p lawful heap tree (shared.Go group) known some k none = refl
placed_other p lawful heap tree (shared.Raise group class message) known some k none = absurd (k.0 group class message refl)
placed_other p lawful heap tree (shared.Throw group thrown) known some k none = absurd (k.1 group thrown refl)
placed_other p lawful heap tree (shared.Begin group class) known some k none = absurd (none (SomeUncarried-one p lawful heap tree (shared.Begin group class) known some (λ c. refl)))
placed_other p lawful heap tree (shared.Native group method) known some k none = absurd (none (SomeUncarried-one p lawful heap tree (shared.Native group method) known some (λ c. refl)))
placed_other p lawful heap tree (shared.Write group stream text) known some k none = refl
placed_other p lawful heap tree (shared.Ended condition end) known some k none = refl

pub placed_append : {S I : Type 0} (xs ys : List (Outcome S I)) → list_all is_placed xs ≡ true → list_all is_placed ys ≡ true → list_all is_placed (xs ++ ys) ≡ true
placed_append [] ys h k = k
placed_append (x ∷ xs) ys h k = both (is_placed x) (list_all is_placed (xs ++ ys)) (both_first (is_placed x) (list_all is_placed xs) h) (placed_append xs ys (both_second (is_placed x) (list_all is_placed xs) h) k)
