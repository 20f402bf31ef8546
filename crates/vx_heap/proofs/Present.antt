-- Where all objects are there in each configuration that runs.
use Rattle.std.proofs.Common.{◌≡◌, ℕ, zero, suc, ◌<◌, ◌≤◌, Bool, true, false, List, [], ◌∷◌, refl, ◌∙◌, ap, length, take, filter, if◌then◌else◌, arith}
use Rattle.std.specs.Prelude.{Some, None, nat_lt, slice_get}
use Rattle.std.proofs.lemmas.Bool.{ltb-true}
use Rattle.vx_value.specs.declared.slot.Slot.{Slot}
use Rattle.vx_value.specs.declared.slot.Slot.TheVariants.{Top, Int, Long, Null, Ref, Text}
use Rattle.vx_value.specs.Slot.{slot_cmp}
use Rattle.vx_space.specs.Sets.{Sets}
use Rattle.vx_cond.specs.Cond.{Conditional}
use Rattle.vx_cond.specs.Slots.{or_top, slot_at}
use Rattle.vx_initial_heap.specs.First.{is_among, value_in}
use Rattle.vx_java.specs.Machine.{Ref as RefValue}
use Rattle.vx_heap.specs.declared.object.HeapObject.{HeapObject}
use Rattle.vx_heap.specs.Heap.{AreEverywhere, HeapView, count_if, is_held, is_object_held, name_at, value_of}
use Rattle.vx_heap.specs.Lifted.{IsThroughout}

module _ {S I : Type 0} (sets : Sets I) (allowed : I) (c : List Bool) (t : sets.test allowed c ≡ true) where
  there : (o : HeapObject S I) → o.presence ≡ allowed → sets.test o.presence c ≡ true
  there o e = ap (λ i. sets.test i c) e ∙ t

  -- each of them is there
  pub all_there : (os : List (HeapObject S I)) → AreEverywhere allowed os → filter (λ o. sets.test o.presence c) os ≡ os
  all_there [] h = refl
  all_there (o ∷ os) h = rw (there o h.0, all_there os h.1) refl

  -- so the name of a reference is its number
  pub name_is : (os : List (HeapObject S I)) (i : ℕ) → AreEverywhere allowed os → i < length os → name_at sets os c i ≡ i
  name_is [] i h l = absurd (omega arith)
  name_is (o ∷ os) zero h l = refl
  name_is (o ∷ os) (suc i) h l = ap (λ b. count_if b (name_at sets os c i)) (there o h.0) ∙ ap suc (name_is os i h.1 (omega arith))

  pub object_there : (os : List (HeapObject S I)) (i : ℕ) → AreEverywhere allowed os → i < length os → is_object_held sets c (slice_get os i) ≡ true
  object_there [] i h l = absurd (omega arith)
  object_there (o ∷ os) zero h l = there o h.0
  object_there (o ∷ os) (suc i) h l = object_there os i h.1 (omega arith)

  module _ (heap : HeapView S I) (everywhere : AreEverywhere allowed heap.objects) (n : ℕ) (enough : n ≤ length heap.objects) where
    below : (i : ℕ) → nat_lt i n ≡ true → i < length heap.objects
    below i h = omega (arith, enough, ltb-true i n h)

    -- and its plain value that of the slot
    pub value_there : (slot : Slot) → is_among n (length heap.texts) slot ≡ true → value_of sets heap c slot ≡ value_in heap.texts slot
    value_there Top h = refl
    value_there (Int k) h = refl
    value_there (Long k) h = refl
    value_there Null h = refl
    value_there (Ref i) h = ap RefValue (name_is heap.objects i everywhere (below i h))
    value_there (Text k) h = refl

    pub held_there : (slot : Slot) → is_among n (length heap.texts) slot ≡ true → is_held sets heap c slot ≡ true
    held_there Top h = refl
    held_there (Int k) h = refl
    held_there (Long k) h = refl
    held_there Null h = refl
    held_there (Ref i) h = object_there heap.objects i everywhere (below i h)
    held_there (Text k) h = h

-- the slot of a lifted value, inside and outside of the scope
pub slot_inside : {S I : Type 0} (sets : Sets I) (scope : I) (value : List Bool → Slot) (cond : Conditional Slot S I) (c : List Bool) → IsThroughout slot_cmp sets scope value cond → sets.test scope c ≡ true → slot_at sets cond c ≡ value c
slot_inside sets scope value cond c h t = ap or_top (h.at c ∙ ap (λ b. if b then Some (value c) else None) t)

pub slot_outside : {S I : Type 0} (sets : Sets I) (scope : I) (value : List Bool → Slot) (cond : Conditional Slot S I) (c : List Bool) → IsThroughout slot_cmp sets scope value cond → sets.test scope c ≡ false → slot_at sets cond c ≡ Top
slot_outside sets scope value cond c h t = ap or_top (h.at c ∙ ap (λ b. if b then Some (value c) else None) t)

-- it names what is there at each configuration
pub held_throughout : {S I : Type 0} (sets : Sets I) (heap : HeapView S I) → AreEverywhere heap.allowed heap.objects → (n : ℕ) → n ≤ length heap.objects → (value : List Bool → Slot) (cond : Conditional Slot S I) (c : List Bool) → IsThroughout slot_cmp sets heap.allowed value cond → is_among n (length heap.texts) (value c) ≡ true → is_held sets heap c (slot_at sets cond c) ≡ true
held_throughout sets heap everywhere n enough value cond c h m = by (sets.test heap.allowed c) refl
  where
    by : (b : Bool) → sets.test heap.allowed c ≡ b → is_held sets heap c (slot_at sets cond c) ≡ true
    by true t = ap (is_held sets heap c) (slot_inside sets heap.allowed value cond c h t) ∙ held_there sets heap.allowed c t heap everywhere n enough (value c) m
    by false t = ap (is_held sets heap c) (slot_outside sets heap.allowed value cond c h t)

pub AreEverywhere-take : {S I : Type 0} (allowed : I) (n : ℕ) (os : List (HeapObject S I)) → AreEverywhere allowed os → AreEverywhere allowed (take n os)
AreEverywhere-take allowed zero os h = tt
AreEverywhere-take allowed (suc n) [] h = tt
AreEverywhere-take allowed (suc n) (o ∷ os) h = (h.0, AreEverywhere-take allowed n os h.1)
