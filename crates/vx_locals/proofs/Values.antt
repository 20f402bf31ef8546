-- The rules of slots are those of their plain values.
use Rattle.std.proofs.Common.{◌≡◌, ℕ, ℤ, ◌+◌, ◌≤◌, zero, suc, Bool, true, List, [], ◌∷◌, refl, sym, ◌∙◌, ap, map, length, arith}
use Rattle.std.proofs.lemmas.List.{map-set}
use Rattle.std.proofs.lemmas.Option.{slice_get_past}
use Rattle.std.specs.Prelude.{Some, slice_get, slice_set, unwrap_or}
use Rattle.vx_list.specs.Places.{item_or}
use Rattle.vx_value.specs.declared.slot.Slot.{Slot}
use Rattle.vx_value.specs.declared.slot.Slot.TheVariants.{Top, Int, Long, Null, Ref, Text}
use Rattle.vx_space.specs.Sets.{Sets}
use Rattle.vx_heap.specs.Heap.{HeapView, are_held, is_held, value_of}
use Rattle.vx_java.specs.Checks.{is_of}
use Rattle.vx_java.specs.Locals.{locals_with}
use Rattle.vx_java.specs.Locals.{unless_long as value_unless_long, without_half as values_without_half}
use Rattle.vx_java.specs.Machine.{Top as TopValue}
use Rattle.vx_java.specs.declared.operation.Sort.{Sort}
use Rattle.vx_java.specs.declared.operation.Sort.TheVariants.{Int as IntSort, Long as LongSort, Reference}
use Rattle.vx_group_states.proofs.StateLaws.{both, both_first, both_second}
use Rattle.vx_families.specs.Sorts.{slot_is_of}
use Rattle.vx_locals.specs.Slots.{increased, stored, unless_long, without_half}

-- ---- places

pub item_past : {A : Type 0} (xs : List A) (n : ℕ) (d : A) → length xs ≤ n → item_or xs n d ≡ d
item_past xs n d h = ap (λ o. unwrap_or o d) (slice_get_past xs n h)

pub item_got : {A : Type 0} (xs : List A) (n : ℕ) (x d : A) → Some x ≡ slice_get xs n → x ≡ item_or xs n d
item_got xs n x d h = ap (λ o. unwrap_or o d) h

pub set_past : {A : Type 0} (xs : List A) (n : ℕ) (x : A) → length xs ≤ n → slice_set xs n x ≡ xs
set_past [] n x h = refl
set_past (y ∷ ys) zero x h = absurd (omega arith)
set_past (y ∷ ys) (suc n) x h = ap (λ zs. y ∷ zs) (set_past ys n x (omega arith))

-- ---- values

pub item_value : {S I : Type 0} (sets : Sets I) (heap : HeapView S I) (c : List Bool) (slots : List Slot) (n : ℕ) → item_or (map (value_of sets heap c) slots) n TopValue ≡ value_of sets heap c (item_or slots n Top)
item_value sets heap c [] n = refl
item_value sets heap c (slot ∷ slots) zero = refl
item_value sets heap c (slot ∷ slots) (suc n) = item_value sets heap c slots n

unless_value : {S I : Type 0} (sets : Sets I) (heap : HeapView S I) (c : List Bool) (slot : Slot) → value_of sets heap c (unless_long slot) ≡ value_unless_long (value_of sets heap c slot)
unless_value sets heap c Top = refl
unless_value sets heap c (Int n) = refl
unless_value sets heap c (Long n) = refl
unless_value sets heap c Null = refl
unless_value sets heap c (Ref i) = refl
unless_value sets heap c (Text n) = refl

half_values : {S I : Type 0} (sets : Sets I) (heap : HeapView S I) (c : List Bool) (slots : List Slot) (n : ℕ) → map (value_of sets heap c) (without_half slots n) ≡ values_without_half (map (value_of sets heap c) slots) n
half_values sets heap c slots zero = refl
half_values sets heap c slots (suc n) = map-set (value_of sets heap c) slots n (unless_long (item_or slots n Top)) ∙ ap (slice_set (map (value_of sets heap c) slots) n) (unless_value sets heap c (item_or slots n Top) ∙ ap value_unless_long (sym (item_value sets heap c slots n)))

set_values : {S I : Type 0} (sets : Sets I) (heap : HeapView S I) (c : List Bool) (slots : List Slot) (n : ℕ) (slot : Slot) → map (value_of sets heap c) (slice_set (without_half slots n) n slot) ≡ slice_set (values_without_half (map (value_of sets heap c) slots) n) n (value_of sets heap c slot)
set_values sets heap c slots n slot = map-set (value_of sets heap c) (without_half slots n) n slot ∙ ap (λ values. slice_set values n (value_of sets heap c slot)) (half_values sets heap c slots n)

pub stored_values : {S I : Type 0} (sets : Sets I) (heap : HeapView S I) (c : List Bool) (sort : Sort) (slots : List Slot) (n : ℕ) (slot : Slot) → slot_is_of sort slot ≡ true → map (value_of sets heap c) (stored sort slots n slot) ≡ locals_with (map (value_of sets heap c) slots) n (value_of sets heap c slot)
stored_values sets heap c IntSort slots n Top h = cc
stored_values sets heap c IntSort slots n (Int a) h = set_values sets heap c slots n (Int a)
stored_values sets heap c IntSort slots n (Long a) h = cc
stored_values sets heap c IntSort slots n Null h = cc
stored_values sets heap c IntSort slots n (Ref i) h = cc
stored_values sets heap c IntSort slots n (Text m) h = cc
stored_values sets heap c LongSort slots n Top h = cc
stored_values sets heap c LongSort slots n (Int a) h = cc
stored_values sets heap c LongSort slots n (Long a) h = map-set (value_of sets heap c) (slice_set (without_half slots n) n (Long a)) (n + 1) Top ∙ ap (λ values. slice_set values (n + 1) TopValue) (set_values sets heap c slots n (Long a))
stored_values sets heap c LongSort slots n Null h = cc
stored_values sets heap c LongSort slots n (Ref i) h = cc
stored_values sets heap c LongSort slots n (Text m) h = cc
stored_values sets heap c Reference slots n Top h = cc
stored_values sets heap c Reference slots n (Int a) h = cc
stored_values sets heap c Reference slots n (Long a) h = cc
stored_values sets heap c Reference slots n Null h = set_values sets heap c slots n Null
stored_values sets heap c Reference slots n (Ref i) h = set_values sets heap c slots n (Ref i)
stored_values sets heap c Reference slots n (Text m) h = cc

-- ---- what is there

pub set_held : {S I : Type 0} (sets : Sets I) (heap : HeapView S I) (c : List Bool) (slots : List Slot) (n : ℕ) (slot : Slot) → are_held sets heap c slots ≡ true → is_held sets heap c slot ≡ true → are_held sets heap c (slice_set slots n slot) ≡ true
set_held sets heap c [] n slot h k = refl
set_held sets heap c (x ∷ xs) zero slot h k = both _ _ k (both_second (is_held sets heap c x) _ h)
set_held sets heap c (x ∷ xs) (suc n) slot h k = both _ _ (both_first (is_held sets heap c x) _ h) (set_held sets heap c xs n slot (both_second (is_held sets heap c x) _ h) k)

pub item_held : {S I : Type 0} (sets : Sets I) (heap : HeapView S I) (c : List Bool) (slots : List Slot) (n : ℕ) → are_held sets heap c slots ≡ true → is_held sets heap c (item_or slots n Top) ≡ true
item_held sets heap c [] n h = refl
item_held sets heap c (x ∷ xs) zero h = both_first (is_held sets heap c x) _ h
item_held sets heap c (x ∷ xs) (suc n) h = item_held sets heap c xs n (both_second (is_held sets heap c x) _ h)

unless_held : {S I : Type 0} (sets : Sets I) (heap : HeapView S I) (c : List Bool) (slot : Slot) → is_held sets heap c slot ≡ true → is_held sets heap c (unless_long slot) ≡ true
unless_held sets heap c Top h = h
unless_held sets heap c (Int n) h = h
unless_held sets heap c (Long n) h = refl
unless_held sets heap c Null h = h
unless_held sets heap c (Ref i) h = h
unless_held sets heap c (Text n) h = h

half_held : {S I : Type 0} (sets : Sets I) (heap : HeapView S I) (c : List Bool) (slots : List Slot) (n : ℕ) → are_held sets heap c slots ≡ true → are_held sets heap c (without_half slots n) ≡ true
half_held sets heap c slots zero h = h
half_held sets heap c slots (suc n) h = set_held sets heap c slots n (unless_long (item_or slots n Top)) h (unless_held sets heap c (item_or slots n Top) (item_held sets heap c slots n h))

pub stored_held : {S I : Type 0} (sets : Sets I) (heap : HeapView S I) (c : List Bool) (sort : Sort) (slots : List Slot) (n : ℕ) (slot : Slot) → are_held sets heap c slots ≡ true → is_held sets heap c slot ≡ true → are_held sets heap c (stored sort slots n slot) ≡ true
stored_held sets heap c IntSort slots n slot h k = set_held sets heap c (without_half slots n) n slot (half_held sets heap c slots n h) k
stored_held sets heap c LongSort slots n slot h k = set_held sets heap c (slice_set (without_half slots n) n slot) (n + 1) Top (set_held sets heap c (without_half slots n) n slot (half_held sets heap c slots n h) k) refl
stored_held sets heap c Reference slots n slot h k = set_held sets heap c (without_half slots n) n slot (half_held sets heap c slots n h) k

pub increased_held : {S I : Type 0} (sets : Sets I) (heap : HeapView S I) (c : List Bool) (by : ℤ) (slot : Slot) → is_held sets heap c slot ≡ true → is_held sets heap c (increased by slot) ≡ true
increased_held sets heap c by Top h = h
increased_held sets heap c by (Int n) h = refl
increased_held sets heap c by (Long n) h = h
increased_held sets heap c by Null h = h
increased_held sets heap c by (Ref i) h = h
increased_held sets heap c by (Text n) h = h
