-- Operands of a group, by their places from the top.
use Rattle.std.proofs.Common.{◌≡◌, ℕ, ◌+◌, ◌<◌, zero, suc, Bool, true, List, [], ◌∷◌, ◌++◌, refl, sym, ◌∙◌, ap, arith, drop, length, reverse}
use Rattle.std.proofs.lemmas.List.{length-map, length-reverse, reverse-append}
use Rattle.std.specs.Prelude.{Some, slice_get}
use Rattle.vx_list.specs.Places.{item_or}
use Rattle.vx_value.specs.declared.slot.Slot.{Slot}
use Rattle.vx_value.specs.declared.slot.Slot.TheVariants.{Top}
use Rattle.vx_space.specs.Sets.{Sets}
use Rattle.vx_cond.specs.Cond.{Conditional}
use Rattle.vx_cond.specs.Row.{Conditionals}
use Rattle.vx_cond.specs.Slots.{slot_at, slots_at}
use Rattle.vx_cond.proofs.RowSteps.{slots_at-get}
use Rattle.vx_group_states.specs.Answering.{operands_at}
use Rattle.vx_heap.specs.declared.object.HeapObject.{HeapObject}
use Rattle.vx_heap.specs.Heap.{HeapView, are_held, is_held, is_object_held}
use Rattle.vx_java.specs.Machine.{Here, Value}
use Rattle.vx_group_states.proofs.StateLaws.{both_first, both_second}

item_before : {A : Type 0} (xs ys : List A) (k : ℕ) (d : A) → k < length xs → item_or (xs ++ ys) k d ≡ item_or xs k d
item_before [] ys k d l = absurd (omega (arith, l))
item_before (x ∷ xs) ys zero d l = refl
item_before (x ∷ xs) ys (suc k) d l = item_before xs ys k d (omega (arith, l))

item_behind : {A : Type 0} (xs : List A) (x d : A) (k : ℕ) → k ≡ length xs → item_or (xs ++ x ∷ []) k d ≡ x
item_behind [] x d zero e = refl
item_behind [] x d (suc k) e = absurd (omega (arith, e))
item_behind (y ∷ ys) x d zero e = absurd (omega (arith, e))
item_behind (y ∷ ys) x d (suc k) e = item_behind ys x d k (omega (arith, e))

pub reversed_item : {A : Type 0} (xs : List A) (i k : ℕ) (x d : A) → Some x ≡ slice_get xs i → k + suc i ≡ length xs → item_or (reverse xs) k d ≡ x
reversed_item [] i k x d e l = absurd (omega (arith, l))
reversed_item (y ∷ ys) zero k x d e l =
    let same : x ≡ y = cc in
    ap (λ zs. item_or zs k d) (reverse-append (y ∷ []) ys) ∙ item_behind (reverse ys) y d k (omega (arith, l, length-reverse ys)) ∙ sym same
reversed_item (y ∷ ys) (suc i) k x d e l =
    ap (λ zs. item_or zs k d) (reverse-append (y ∷ []) ys) ∙ item_before (reverse ys) (y ∷ []) k d (omega (arith, l, length-reverse ys)) ∙ reversed_item ys i k x d e (omega (arith, l))

pub length-operands : {S I : Type 0} (sets : Sets I) (row : Conditionals Slot S I) (c : List Bool) → length (operands_at sets row c) ≡ length row.conds
length-operands sets row c = simp (length-reverse, length-map) refl

-- the operand at a place from the top
pub operand_there : {S I : Type 0} (sets : Sets I) (row : Conditionals Slot S I) (i k : ℕ) (cond : Conditional Slot S I) (c : List Bool) → Some cond ≡ slice_get row.conds i → k + suc i ≡ length row.conds → item_or (operands_at sets row c) k Top ≡ slot_at sets cond c
operand_there sets row i k cond c e l =
    let number : length (slots_at sets row c) ≡ length row.conds = simp length-map refl in
    reversed_item (slots_at sets row c) i k (slot_at sets cond c) Top (slots_at-get sets row i cond c e) (l ∙ sym number)

two_first : {A : Type 0} (xs : List A) (d : A) → 1 < length xs → xs ≡ item_or xs 0 d ∷ item_or xs 1 d ∷ drop 2 xs
two_first [] d l = absurd (omega (arith, l))
two_first (x ∷ []) d l = absurd (omega (arith, l))
two_first (x ∷ y ∷ xs) d l = refl

-- the argument, the receiver and the operands under them
pub two_operands : {S I : Type 0} (sets : Sets I) (row : Conditionals Slot S I) (c : List Bool) → 1 < length row.conds → operands_at sets row c ≡ item_or (operands_at sets row c) 0 Top ∷ item_or (operands_at sets row c) 1 Top ∷ drop 2 (operands_at sets row c)
two_operands sets row c l = two_first (operands_at sets row c) Top (omega (arith, l, length-operands sets row c))

-- ---- what is held

pub held_there : {S I : Type 0} (sets : Sets I) (c : List Bool) (os : List (HeapObject S I)) (i : ℕ) (d : HeapObject S I) → is_object_held sets c (slice_get os i) ≡ true → (i < length os) × (sets.test (item_or os i d).presence c ≡ true)
held_there sets c [] i d h = cc
held_there sets c (o ∷ os) zero d h = (omega arith, h)
held_there sets c (o ∷ os) (suc i) d h = let more = held_there sets c os i d h in (omega (arith, more.0), more.1)

pub item_held : {S I : Type 0} (sets : Sets I) (heap : HeapView S I) (c : List Bool) (slots : List Slot) (i : ℕ) → are_held sets heap c slots ≡ true → is_held sets heap c (item_or slots i Top) ≡ true
item_held sets heap c [] i h = refl
item_held sets heap c (x ∷ xs) zero h = both_first (is_held sets heap c x) _ h
item_held sets heap c (x ∷ xs) (suc i) h = item_held sets heap c xs i (both_second (is_held sets heap c x) _ h)

-- ---- other operands

abbrev pub with_operands : Here → List Value → Here
with_operands h operands = record h { state = record (h.state) { top = record (h.state.top) { operands = operands } } }
