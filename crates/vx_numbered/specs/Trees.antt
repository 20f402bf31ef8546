-- Rows of numbers as the leaves of numbered trees.
use Rattle.std.specs.Prelude.{List, [], length, suc, zero, ℕ, ◌++◌, ◌<◌, ◌∷◌, ◌≡◌}
use Rattle.vx_list.specs.Places.{item_or}
use Rattle.vx_numbered.specs.declared.trees.Pair.{Pair}

abbrev pub no_pair : Pair
no_pair = record { low = 0; high = 0 }

abbrev pub pair_at : List Pair → ℕ → Pair
pair_at pairs tree = item_or pairs tree no_pair

-- the leaves of a tree of so many levels
unfoldable pub leaves : List Pair → (levels tree : ℕ) → List ℕ
leaves pairs zero tree = tree ∷ []
leaves pairs (suc n) tree = leaves pairs n (pair_at pairs tree).low ++ leaves pairs n (pair_at pairs tree).high

-- the pairs of a tree are there
unfoldable pub IsTree : List Pair → (levels tree : ℕ) → Type 0
IsTree pairs zero tree = Unit {0}
IsTree pairs (suc n) tree = (tree < length pairs) × IsTree pairs n (pair_at pairs tree).low × IsTree pairs n (pair_at pairs tree).high

-- a list with more behind it
pub record Grows {A : Type 0} (xs ys : List A) : Type 0 where
  pub more : List A
  pub is : ys ≡ xs ++ more

-- in a list with more pairs a tree of so many levels has these leaves
pub record IsMade (xs ys : List Pair) (levels tree : ℕ) (these : List ℕ) : Type 0 where
  pub grows : Grows xs ys
  pub is_tree : IsTree ys levels tree
  pub has : leaves ys levels tree ≡ these

-- a pair that is there, by its number
pub record IsKnownPair (xs : List Pair) (low high number : ℕ) : Type 0 where
  pub within : number < length xs
  pub is : pair_at xs number ≡ record { low = low; high = high }

-- a pair is there, with no pair lost
pub record IsPaired (xs ys : List Pair) (low high number : ℕ) : Type 0 where
  pub grows : Grows xs ys
  pub known : IsKnownPair ys low high number
