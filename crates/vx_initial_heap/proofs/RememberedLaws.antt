-- Numbers that are remembered stay right.
use Rattle.std.proofs.Common.{◌≡◌, ◌≢◌, List, [], ◌∷◌, ℕ, zero, suc, refl}
use Rattle.std.specs.Prelude.{slice_set}
use Rattle.vx_initial_heap.specs.Remembered.{IsRight, classes_with, number_for, texts_with}
use Rattle.vx_initial_heap.specs.declared.remembered.Remembered.{Remembered}
use Rattle.vx_list.specs.Places.{item_or}
use Rattle.vx_pool.specs.declared.pool.Entry.{Entry}
use Rattle.vx_pool.specs.declared.pool.Entry.TheVariants.{Class, Text}

abbrev AreRight : (ℕ → ℕ → Type 0) → List ℕ → Type 0
AreRight right numbers = (i : ℕ) → item_or numbers i 0 ≢ 0 → right i (item_or numbers i 0)

put_right : (right : ℕ → ℕ → Type 0) (numbers : List ℕ) (i n : ℕ) → AreRight right numbers → right i n → AreRight right (slice_set numbers i n)
put_right right [] i n all new j = all j
put_right right (x ∷ xs) zero n all new zero = λ some. new
put_right right (x ∷ xs) zero n all new (suc j) = all (suc j)
put_right right (x ∷ xs) (suc i) n all new zero = all zero
put_right right (x ∷ xs) (suc i) n all new (suc j) = put_right (λ k. right (suc k)) xs i n (λ k. all (suc k)) new j

texts_right : (right : Entry → ℕ → Type 0) (r : Remembered) (e : Entry) (n : ℕ) → IsRight right r → right e n → AreRight (λ i. right (Text i)) (texts_with r.texts.items e n)
texts_right right r (Text i) n all new = put_right (λ j. right (Text j)) r.texts.items i n (λ j. all.each (Text j)) new
texts_right right r _ n all new = λ j. all.each (Text j)

classes_right : (right : Entry → ℕ → Type 0) (r : Remembered) (e : Entry) (n : ℕ) → IsRight right r → right e n → AreRight (λ i. right (Class i)) (classes_with r.classes.items e n)
classes_right right r (Class i) n all new = put_right (λ j. right (Class j)) r.classes.items i n (λ j. all.each (Class j)) new
classes_right right r _ n all new = λ j. all.each (Class j)

pub right_more : (right : Entry → ℕ → Type 0) (r s : Remembered) (e : Entry) (n : ℕ) → s.texts.items ≡ texts_with r.texts.items e n → s.classes.items ≡ classes_with r.classes.items e n
    → IsRight right r → right e n → IsRight right s
right_more right r s e n texts classes all new = record { each = at }
  where
    at : (f : Entry) → number_for s f ≢ 0 → right f (number_for s f)
    at (Text i) = rw texts (texts_right right r e n all new i)
    at (Class i) = rw classes (classes_right right r e n all new i)
    at _ = λ some. absurd (some refl)
