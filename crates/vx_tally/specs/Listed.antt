-- Single numbers with the sets in which they are.
use Rattle.std.specs.Prelude.{◌≡◌, ℕ, ◌<◌, ◌^◌, ◌&&◌, ◌∷◌, Bool, true, false, List, [], Option, Some, None, not, nat_le, if◌then◌else◌}
use Rattle.std.specs.Ordering.{nat_cmp}
use Rattle.vx_space.specs.Sets.{Sets, IsSet, Extends}
use Rattle.vx_cond.specs.declared.cond.Leaf.{Leaf}
use Rattle.vx_cond.specs.Leaves.{AreLeaves, value_at}
use Rattle.vx_tally.specs.Tally.{TallyView, number_at}
use Rattle.vx_tally.specs.Answers.{IsMost}

-- the numbers of a tally in a set, and none elsewhere
abbrev pub numbers_in : {I : Type 0} → Sets I → TallyView → I → List Bool → Option ℕ
numbers_in sets tally set c = if sets.test set c then Some (number_at tally c) else None

-- each number in the set is below 2 ^ 64
pub record Fit {I : Type 0} (sets : Sets I) (tally : TallyView) (set : I) : Type 0 where
  pub below : (c : List Bool) → sets.test set c ≡ true → number_at tally c < 2 ^ 64

-- a number is less than that of each leaf
abbrev pub IsUnder : {S I : Type 0} → ℕ → List (Leaf ℕ S I) → Type 0
IsUnder n [] = Unit {0}
IsUnder n (leaf ∷ leaves) = (n < leaf.value) × IsUnder n leaves

-- so much of a set is left, and what isn't has its numbers among the leaves, which are greater than those that are left
pub record IsListing {S I : Type 0} (old new : Sets I) (tally : TallyView) (within rest : I) (leaves : List (Leaf ℕ S I)) : Type 0 where
  pub extends : Extends old new
  pub rest_known : new.is_known rest ≡ true
  pub are_leaves : AreLeaves nat_cmp new leaves
  pub inside : (c : List Bool) → new.test rest c ≡ true → old.test within c ≡ true
  pub values : (c : List Bool) → value_at new leaves c ≡ (if old.test within c && not (new.test rest c) then Some (number_at tally c) else None)
  pub under : (c : List Bool) → new.test rest c ≡ true → IsUnder (number_at tally c) leaves

-- the greatest number of a set was put before the others with its set, and so much is left; or nothing was left
pub record IsListedOne {S I : Type 0} (old new : Sets I) (tally : TallyView) (rest left : I) (before after : List (Leaf ℕ S I)) : Type 0 where
  pub leaf : Leaf ℕ S I
  pub put : after ≡ leaf ∷ before
  pub most : IsMost old (number_at tally) rest leaf.value
  pub middle : Sets I
  pub first : Extends old middle
  pub second : Extends middle new
  pub condition : IsSet middle leaf.condition (λ c. old.test rest c && nat_le leaf.value (number_at tally c))
  pub left_is : IsSet new left (λ c. middle.test rest c && not (middle.test leaf.condition c))

abbrev pub IsListed : {S I : Type 0} → (old new : Sets I) → TallyView → I → (before after : List (Leaf ℕ S I)) → Option I → Type 0
IsListed old new tally rest before after None = (rest ≡ old.never) × (after ≡ before) × Extends old new
IsListed old new tally rest before after (Some left) = IsListedOne old new tally rest left before after

-- the number of the first leaf, or a greater one than all
abbrev pub first_number : {S I : Type 0} → List (Leaf ℕ S I) → ℕ
first_number [] = 2 ^ 64
first_number (leaf ∷ leaves) = leaf.value
