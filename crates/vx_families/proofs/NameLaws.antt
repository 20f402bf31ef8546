-- Names of references, and the values of slots where the heap grows.
use Rattle.std.proofs.Common.{◌≡◌, ℕ, ◌<◌, zero, suc, Bool, true, false, List, [], ◌∷◌, refl, sym, ◌∙◌, ap, inl, inr, arith, length, filter}
use Rattle.std.proofs.lemmas.Bool.{cases_order}
use Rattle.std.proofs.lemmas.List.{length-map}
use Rattle.std.specs.Prelude.{if◌then◌else◌, slice_get}
use Rattle.vx_space.specs.Sets.{Sets, Extends}
use Rattle.vx_heap.specs.declared.object.HeapObject.{HeapObject}
use Rattle.vx_heap.specs.Heap.{HeapView, IsHeap, count_if, is_held, is_object_held, name_at, object_of}
use Rattle.vx_heap.proofs.HeapLaws.{name_at-extends}
use Rattle.vx_group_states.proofs.GrownStates.{is_held-grown, name_at-grown, value_of-grown}
use Rattle.vx_group_states.specs.Stands.{Grows}
use Rattle.vx_java.specs.Machine.{Ref as RefValue}
use Rattle.vx_value.specs.declared.slot.Slot.TheVariants.{Ref}
use Rattle.vx_families.specs.Names.{NamesGrow, NamesTell, NewNameIsNext, ValuesStay}

-- ---- slots that name what is there

pub values_stay : {S I : Type 0} → ValuesStay S I
values_stay old new before after e v k c slot h = (is_held-grown e before after v k c slot h, value_of-grown e before after v k c slot h)

-- a reference that is there keeps its name
pub name_stays : {S I : Type 0} {s0 s1 : Sets I} → Extends s0 s1 → (before after : HeapView S I) → IsHeap s0 before → Grows before after → (c : List Bool) (r : ℕ) → is_held s0 before c (Ref r) ≡ true → name_at s1 after.objects c r ≡ name_at s0 before.objects c r
name_stays {s0 = s0} {s1 = s1} e before after v k c r h = same (name_at s1 after.objects c r) (name_at s0 before.objects c r) (value_of-grown e before after v k c (Ref r) h)
  where
    same : (a b : ℕ) → RefValue a ≡ RefValue b → a ≡ b
    same a b q = cc q

-- ---- the next name

name_all : {S I : Type 0} (sets : Sets I) (os : List (HeapObject S I)) (c : List Bool) → name_at sets os c (length os) ≡ length (filter (λ o. sets.test o.presence c) os)
name_all sets [] c = refl
name_all {S = S} {I = I} sets (o ∷ os) c = cases (sets.test o.presence c) (name_at sets os c (length os)) (filter (λ p. sets.test p.presence c) os) (name_all sets os c)
  where
    cases : (b : Bool) (n : ℕ) (ps : List (HeapObject S I)) → n ≡ length ps → count_if b n ≡ length (if b then o ∷ ps else ps)
    cases true n ps e = ap suc e
    cases false n ps e = e

pub new_name_is_next : {S I : Type 0} → NewNameIsNext S I
new_name_is_next old new before after e v k c =
    name_at-grown new before.objects after.objects k.objects c (length before.objects) (omega arith)
    ∙ name_at-extends e before v c (length before.objects)
    ∙ name_all old before.objects c
    ∙ sym (length-map (filter (λ o. old.test o.presence c) before.objects) (object_of old before c))

-- ---- references and their names

name_less : {S I : Type 0} (sets : Sets I) (os : List (HeapObject S I)) (c : List Bool) (i j : ℕ) → is_object_held sets c (slice_get os i) ≡ true → i < j → name_at sets os c i < name_at sets os c j
name_less sets [] c i j h l = cc h
name_less sets (o ∷ os) c i zero h l = absurd (omega (arith, l))
name_less sets (o ∷ os) c zero (suc j) h l = first (sets.test o.presence c) (name_at sets os c j) h
  where
    first : (b : Bool) (n : ℕ) → b ≡ true → 0 < count_if b n
    first true n t = omega arith
    first false n t = cc t
name_less sets (o ∷ os) c (suc i) (suc j) h l = both (sets.test o.presence c) (name_at sets os c i) (name_at sets os c j) (name_less sets os c i j h (omega (arith, l)))
  where
    both : (b : Bool) (m n : ℕ) → m < n → count_if b m < count_if b n
    both true m n k = omega (arith, k)
    both false m n k = k

pub names_grow : {S I : Type 0} → NamesGrow S I
names_grow sets heap c i j h l = name_less sets heap.objects c i j h l

pub names_tell : {S I : Type 0} → NamesTell S I
names_tell sets heap c i j h k = (
  λ e. ap (name_at sets heap.objects c) e,
  λ same. elim (cases_order i j) [
    | inl e ↦ e
    | inr other ↦ elim other [
      | inl less ↦ absurd (omega (arith, same, name_less sets heap.objects c i j h less))
      | inr more ↦ absurd (omega (arith, same, name_less sets heap.objects c j i k more))
    ]
  ],
)
