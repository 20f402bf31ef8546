-- The class and the length of an object that is there are those of the plain object of its name.
use Rattle.std.proofs.Common.{◌≡◌, ℕ, zero, suc, Bool, true, false, List, [], ◌∷◌, refl, sym, ◌∙◌, ap, map, filter, if◌then◌else◌}
use Rattle.std.specs.Prelude.{Option, None, Some, is_some, option_map, slice_get}
use Rattle.vx_list.specs.Places.{item_or}
use Rattle.vx_space.specs.Sets.{Sets}
use Rattle.vx_heap.specs.declared.object.HeapObject.{HeapObject}
use Rattle.vx_heap.specs.Heap.{HeapView, class_at_slot, count_if, is_held, is_object_held, name_at, no_heap_object, object_in, object_of, objects_at}
use Rattle.vx_java.specs.Machine.{Object, no_object}
use Rattle.vx_value.specs.declared.slot.Slot.TheVariants.{Ref}
use Rattle.vx_cells.specs.Classes.{has_class}

named_class : {S I : Type 0} (test : ℕ → Bool) (sets : Sets I) (f : HeapObject S I → Object) → ((o : HeapObject S I) → (f o).class ≡ o.class.0) → (os : List (HeapObject S I)) (c : List Bool) (r : ℕ) → is_object_held sets c (slice_get os r) ≡ true → has_class test (option_map (λ o. o.class) (slice_get os r)) ≡ test (item_or (map f (filter (λ p. sets.test p.presence c) os)) (name_at sets os c r) no_object).class
named_class test sets f same [] c r h = cc h
named_class {S = S} {I = I} test sets f same (o ∷ os) c zero h =
    ap test (sym (same o))
    ∙ ap (λ b. test (item_or (map f (if b then o ∷ filter (λ p. sets.test p.presence c) os else filter (λ p. sets.test p.presence c) os)) 0 no_object).class) (sym h)
named_class {S = S} {I = I} test sets f same (o ∷ os) c (suc r) h =
    named_class test sets f same os c r h
    ∙ cases (sets.test o.presence c) (filter (λ p. sets.test p.presence c) os) (name_at sets os c r)
  where
    cases : (b : Bool) (ps : List (HeapObject S I)) (n : ℕ) → test (item_or (map f ps) n no_object).class ≡ test (item_or (map f (if b then o ∷ ps else ps)) (count_if b n) no_object).class
    cases true ps n = refl
    cases false ps n = refl

pub class_there : {S I : Type 0} (test : ℕ → Bool) (sets : Sets I) (heap : HeapView S I) (c : List Bool) (r : ℕ) → is_held sets heap c (Ref r) ≡ true → has_class test (class_at_slot heap (Ref r)) ≡ test (item_or (objects_at sets heap c) (name_at sets heap.objects c r) no_object).class
class_there test sets heap c r h = named_class test sets (object_of sets heap c) (λ o. refl) heap.objects c r h

-- a slot that is held and names an object has a class
pub class_some : {S I : Type 0} (sets : Sets I) (heap : HeapView S I) (c : List Bool) (r : ℕ) → is_held sets heap c (Ref r) ≡ true → is_some (class_at_slot heap (Ref r)) ≡ true
class_some {S = S} {I = I} sets heap c r h = cases (slice_get heap.objects r) h
  where
    cases : (o : Option (HeapObject S I)) → is_object_held sets c o ≡ true → is_some (option_map (λ x. x.class) o) ≡ true
    cases None h = cc h
    cases (Some o) h = refl

named_length : {S I : Type 0} (sets : Sets I) (f : HeapObject S I → Object) → ((o : HeapObject S I) → (f o).size ≡ o.length) → (os : List (HeapObject S I)) (c : List Bool) (r : ℕ) (d : HeapObject S I) → is_object_held sets c (slice_get os r) ≡ true → (item_or os r d).length ≡ (item_or (map f (filter (λ p. sets.test p.presence c) os)) (name_at sets os c r) no_object).size
named_length sets f same [] c r d h = cc h
named_length {S = S} {I = I} sets f same (o ∷ os) c zero d h =
    sym (same o)
    ∙ ap (λ b. (item_or (map f (if b then o ∷ filter (λ p. sets.test p.presence c) os else filter (λ p. sets.test p.presence c) os)) 0 no_object).size) (sym h)
named_length {S = S} {I = I} sets f same (o ∷ os) c (suc r) d h =
    named_length sets f same os c r d h
    ∙ cases (sets.test o.presence c) (filter (λ p. sets.test p.presence c) os) (name_at sets os c r)
  where
    cases : (b : Bool) (ps : List (HeapObject S I)) (n : ℕ) → (item_or (map f ps) n no_object).size ≡ (item_or (map f (if b then o ∷ ps else ps)) (count_if b n) no_object).size
    cases true ps n = refl
    cases false ps n = refl

pub length_there : {S I : Type 0} (sets : Sets I) (heap : HeapView S I) (c : List Bool) (r : ℕ) → is_held sets heap c (Ref r) ≡ true → (object_in heap r).length ≡ (item_or (objects_at sets heap c) (name_at sets heap.objects c r) no_object).size
length_there sets heap c r h = named_length sets (object_of sets heap c) (λ o. refl) heap.objects c r (no_heap_object heap.allowed) h
