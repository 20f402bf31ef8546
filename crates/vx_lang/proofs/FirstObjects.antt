-- The first objects stand under their numbers in each configuration that runs.
use Rattle.std.proofs.Common.{◌≡◌, ℕ, ◌<◌, ◌≤◌, zero, suc, Bool, true, List, [], ◌∷◌, ◌∙◌, ap, arith, length, take, refl}
use Rattle.std.specs.Prelude.{slice_get}
use Rattle.vx_heap.specs.Heap.{AreEverywhere, HeapView, IsHeapFor, count_if, is_held, is_object_held, name_at}
use Rattle.vx_heap.specs.declared.object.HeapObject.{HeapObject}
use Rattle.vx_java.specs.FirstObjects.{first_words}
use Rattle.vx_link.specs.declared.program.Program.{Program}
use Rattle.vx_space.specs.Sets.{Sets}
use Rattle.vx_value.specs.declared.slot.Slot.TheVariants.{Ref}

module _ {S I : Type 0} (sets : Sets I) (allowed : I) (c : List Bool) (t : sets.test allowed c ≡ true) where
  held : (os : List (HeapObject S I)) (n i : ℕ) → AreEverywhere allowed (take n os) → i < n → i < length os → is_object_held sets c (slice_get os i) ≡ true
  held [] n i a l m = absurd (omega (arith, m))
  held (o ∷ os) zero i a l m = absurd (omega (arith, l))
  held (o ∷ os) (suc n) zero a l m = ap (λ k. sets.test k c) a.0 ∙ t
  held (o ∷ os) (suc n) (suc i) a l m = held os n i a.1 (omega (arith, l)) (omega (arith, m))

  named : (os : List (HeapObject S I)) (n i : ℕ) → AreEverywhere allowed (take n os) → i < n → i < length os → name_at sets os c i ≡ i
  named [] n i a l m = absurd (omega (arith, m))
  named (o ∷ os) zero i a l m = absurd (omega (arith, l))
  named (o ∷ os) (suc n) zero a l m = refl
  named (o ∷ os) (suc n) (suc i) a l m = ap (λ b. count_if b (name_at sets os c i)) (ap (λ k. sets.test k c) a.0 ∙ t) ∙ ap suc (named os n i a.1 (omega (arith, l)) (omega (arith, m)))

-- one that stands before the array for main
module _ {S I : Type 0} (p : Program) (sets : Sets I) (heap : HeapView S I) (c : List Bool) (i : ℕ) (is_for : IsHeapFor p heap) (t : sets.test heap.allowed c ≡ true) (l : i < first_words p) where
  pub first_held : is_held sets heap c (Ref i) ≡ true
  first_held = held sets heap.allowed c t heap.objects (suc (first_words p)) i is_for.first (omega (arith, l)) (omega (arith, l, is_for.enough))

  pub first_named : name_at sets heap.objects c i ≡ i
  first_named = named sets heap.allowed c t heap.objects (suc (first_words p)) i is_for.first (omega (arith, l)) (omega (arith, l, is_for.enough))
