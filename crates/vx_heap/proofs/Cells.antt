-- What reading a cell gives.
use Rattle.std.proofs.Common.{◌≡◌, ℕ, zero, suc, ◌<◌, Bool, true, false, List, [], ◌∷◌, refl, sym, ◌∙◌, ap, map, length, filter, arith, get_or, if◌then◌else◌}
use Rattle.std.specs.List.{list_all}
use Rattle.std.specs.Prelude.{Option, Some}
use Rattle.vx_list.specs.Places.{item_or}
use Rattle.vx_value.specs.declared.slot.Slot.{Slot}
use Rattle.vx_value.specs.declared.slot.Slot.TheVariants.{Top}
use Rattle.vx_value.specs.Slot.{slot_cmp}
use Rattle.vx_space.specs.Sets.{Sets, Extends, IsLawful}
use Rattle.vx_cond.specs.Leaves.{value_within}
use Rattle.vx_cond.specs.Cond.{Conditional, IsCondOf, IsInside}
use Rattle.vx_cond.specs.Slots.{or_top, slot_at}
use Rattle.vx_cond.proofs.CondLaws.{IsCond-of, cond_at-of}
use Rattle.vx_cond.proofs.RowLaws.{scope_is}
use Rattle.vx_java.specs.Machine.{Object, no_object, Top as TopValue}
use Rattle.vx_heap.specs.Cells.{cells_at}
use Rattle.vx_heap.specs.declared.object.HeapObject.{HeapObject}
use Rattle.vx_heap.specs.Heap.{AreObjects, HeapView, IsCellRead, IsHeap, IsObject, are_held, count_if, is_held, name_at, no_heap_object, object_holds, object_in, object_of, value_of}
use Rattle.vx_heap.proofs.HeapLaws.{is_held-extends, value_of-extends}
use Rattle.vx_heap.proofs.Places.{at_place, both_true, item_at, passes_here}
use Rattle.vx_heap.proofs.Written.{some_within, within_there}

-- the object of a reference stands at its name, where it is there
pub named : {S I : Type 0} (sets : Sets I) (f : HeapObject S I → Object) (os : List (HeapObject S I)) (c : List Bool) (i : ℕ) (o : HeapObject S I) (d : Object) → i < length os → o ≡ get_or os i o → sets.test o.presence c ≡ true → item_or (map f (filter (λ p. sets.test p.presence c) os)) (name_at sets os c i) d ≡ f o
named sets f [] c i o d l e t = absurd (omega arith)
named {S = S} {I = I} sets f (y ∷ ys) c zero o d l e t =
    ap (λ b. item_or (map f (if b then y ∷ filter (λ p. sets.test p.presence c) ys else filter (λ p. sets.test p.presence c) ys)) 0 d) (ap (λ (p : HeapObject S I). sets.test p.presence c) (sym e) ∙ t) ∙ ap f (sym e)
named {S = S} {I = I} sets f (y ∷ ys) c (suc i) o d l e t = cases (sets.test y.presence c) (filter (λ p. sets.test p.presence c) ys) (name_at sets ys c i) ∙ named sets f ys c i o d (omega arith) e t
  where
    cases : (b : Bool) (ps : List (HeapObject S I)) (n : ℕ) → item_or (map f (if b then y ∷ ps else ps)) (count_if b n) d ≡ item_or (map f ps) n d
    cases true ps n = refl
    cases false ps n = refl

pub object_at_place : {S I : Type 0} (sets : Sets I) (os : List (HeapObject S I)) (i : ℕ) (o : HeapObject S I) → AreObjects sets os → i < length os → o ≡ get_or os i o → IsObject sets o
object_at_place sets [] i o h l e = absurd (omega arith)
object_at_place sets (y ∷ ys) zero o h l e = rw e h.0
object_at_place sets (y ∷ ys) (suc i) o h l e = object_at_place sets ys i o h.1 (omega arith) e

pub object_there : {S I : Type 0} (heap : HeapView S I) (reference : ℕ) (o : HeapObject S I) → reference < length heap.objects → o ≡ object_in heap reference → o ≡ get_or heap.objects reference o
object_there heap reference o l e = at_place heap.objects reference o (no_heap_object heap.allowed) l e

pub object_named : {S I : Type 0} (heap : HeapView S I) (reference : ℕ) (o : HeapObject S I) → reference < length heap.objects → o ≡ get_or heap.objects reference o → o ≡ object_in heap reference
object_named heap reference o l e = sym (item_at heap.objects reference o (no_heap_object heap.allowed) l e)

-- what is known of the object of a reference
pub is_object_in : {S I : Type 0} (sets : Sets I) (heap : HeapView S I) (reference : ℕ) (o : HeapObject S I) → IsHeap sets heap → reference < length heap.objects → o ≡ object_in heap reference → IsObject sets o
unfolding IsHeap
is_object_in sets heap reference o v l e = object_at_place sets heap.objects reference o v.objects l (object_there heap reference o l e)

pub holds_in : {S I : Type 0} (sets : Sets I) (heap : HeapView S I) (reference : ℕ) (o : HeapObject S I) → IsHeap sets heap → reference < length heap.objects → o ≡ object_in heap reference → (c : List Bool) → sets.test o.presence c ≡ true → are_held sets heap c (cells_at sets o.cells c) ≡ true
unfolding IsHeap
holds_in sets heap reference o v l e c t =
    sym (ap (λ b. if b then are_held sets heap c (cells_at sets o.cells c) else true) t)
    ∙ passes_here (object_holds sets heap c) heap.objects reference o (v.objects_held c) l (object_there heap reference o l e)

item_map : {A B : Type 0} (f : A → B) (xs : List A) (i : ℕ) (d : A) → item_or (map f xs) i (f d) ≡ f (item_or xs i d)
item_map f [] i d = refl
item_map f (x ∷ xs) zero d = refl
item_map f (x ∷ xs) (suc i) d = item_map f xs i d

item_passes : {A : Type 0} (p : A → Bool) (xs : List A) (i : ℕ) (d : A) → list_all p xs ≡ true → p d ≡ true → p (item_or xs i d) ≡ true
item_passes p [] i d h k = k
item_passes p (x ∷ xs) zero d h k = (both_true (p x) (list_all p xs) h).0
item_passes p (x ∷ xs) (suc i) d h k = item_passes p xs i d (both_true (p x) (list_all p xs) h).1 k

-- what `read_cell` gives
pub IsCellRead-within : {S I : Type 0} {old new : Sets I} → IsLawful new → Extends old new → (heap : HeapView S I) (reference cell : ℕ) (path : I) (o : HeapObject S I) (made : Conditional Slot S I) → IsHeap old heap → reference < length heap.objects → o ≡ object_in heap reference → old.is_known path ≡ true → IsInside old path o.presence → IsCondOf slot_cmp new (value_within old path (λ c. Some (item_or (cells_at old o.cells c) cell Top))) made → IsCellRead old new heap reference cell path made
IsCellRead-within {S = S} {I = I} {old = old} {new = new} lawful e heap reference cell path o made v l q k n m =
    let read : List Bool → Option Slot = λ c. Some (item_or (cells_at old o.cells c) cell Top) in
    let slot : (c : List Bool) → old.test path c ≡ true → slot_at new made c ≡ item_or (cells_at old o.cells c) cell Top = λ c t. ap or_top (cond_at-of slot_cmp new (value_within old path read) made c m ∙ within_there (old.test path c) (read c) t) in
    record {
      is_cond = IsCond-of slot_cmp new (value_within old path read) made m;
      scope = scope_is slot_cmp lawful (value_within old path read) made path (old.test path) m (record { known = e.known path k; test = λ c. e.test path c k }) (λ c. some_within (old.test path c) (item_or (cells_at old o.cells c) cell Top));
      at = λ c t.
          value_of-extends e heap v c (slot_at new made c)
          ∙ ap (value_of old heap c) (slot c t)
          ∙ sym (
          ap (λ object. item_or object.cells cell TopValue) (named old (object_of old heap c) heap.objects c reference o no_object l (object_there heap reference o l q) (n.inside c t))
          ∙ item_map (value_of old heap c) (cells_at old o.cells c) cell Top);
      held = λ c t.
          is_held-extends e heap v c (slot_at new made c)
          ∙ ap (is_held old heap c) (slot c t)
          ∙ item_passes (is_held old heap c) (cells_at old o.cells c) cell Top (holds_in old heap reference o v l q c (n.inside c t)) refl;
    }
