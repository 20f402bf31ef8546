-- Numbers for the literals of a pool, by the texts that they name.
use Rattle.std.specs.Prelude.{List, slice_set, ℕ, ◌≢◌}
use Rattle.vx_initial_heap.specs.declared.remembered.Remembered.{Remembered}
use Rattle.vx_list.specs.Places.{item_or}
use Rattle.vx_pool.specs.declared.pool.Entry.{Entry}
use Rattle.vx_pool.specs.declared.pool.Entry.TheVariants.{Class, Text}

-- the number of an entry, or 0
abbrev pub number_for : Remembered → Entry → ℕ
number_for r (Text i) = item_or r.texts.items i 0
number_for r (Class i) = item_or r.classes.items i 0
number_for r _ = 0

-- the numbers of texts, and of classes, with that of an entry
abbrev pub texts_with : List ℕ → Entry → ℕ → List ℕ
texts_with numbers (Text i) n = slice_set numbers i n
texts_with numbers _ n = numbers

abbrev pub classes_with : List ℕ → Entry → ℕ → List ℕ
classes_with numbers (Class i) n = slice_set numbers i n
classes_with numbers _ n = numbers

-- each number that is remembered is a right one
pub record IsRight (right : Entry → ℕ → Type 0) (r : Remembered) : Type 0 where
  pub each : (e : Entry) → number_for r e ≢ 0 → right e (number_for r e)
