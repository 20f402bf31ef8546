-- What is still to be covered.
use Rattle.std.specs.Prelude.{◌≡◌, ◌≢◌, ℕ, ◌<◌, ◌≤◌, Bool, true, List, [], ◌∷◌, ◌++◌, Option, Some, None, nat_eq, if◌then◌else◌, ◌⊎◌}
use Rattle.std.specs.List.{count_by, flat_map}
use Rattle.vx_space.specs.Sets.{Sets}
use Rattle.vx_cover.specs.declared.target.Target.{Target}

-- the sets are known, and none is never
abbrev pub AreOpen : {I : Type 0} → Sets I → List (Target I) → Type 0
AreOpen sets [] = Unit {0}
AreOpen sets (t ∷ ts) = ((sets.is_known t.set ≡ true) × (t.set ≢ sets.never)) × AreOpen sets ts

-- each set has just the configurations that have the target's number
abbrev pub AreRight : {I : Type 0} → Sets I → (ℕ → List Bool → Bool) → List (Target I) → Type 0
AreRight sets has [] = Unit {0}
AreRight sets has (t ∷ ts) = ((c : List Bool) → sets.test t.set c ≡ has t.index c) × AreRight sets has ts

-- how often a number stands among targets
abbrev pub times_open : {I : Type 0} → ℕ → List (Target I) → ℕ
times_open index ts = count_by (λ t. nat_eq index t.index) ts

-- the targets of the numbers up to n
pub record AreFirst {I : Type 0} (sets : Sets I) (has : ℕ → List Bool → Bool) (n : ℕ) (ts : List (Target I)) : Type 0 where
  pub open_sets : AreOpen sets ts
  pub right : AreRight sets has ts
  pub once : (index : ℕ) (c : List Bool) → index ≤ n → has index c ≡ true → times_open index ts ≡ 1
  pub later : (index : ℕ) → n < index → times_open index ts ≡ 0

-- a target is put behind others, unless its set is never
abbrev pub IsPushed : {I : Type 0} → Sets I → ℕ → I → List (Target I) → List (Target I) → Type 0
IsPushed sets index set old new = ((set ≡ sets.never) × (new ≡ old)) ⊎ ((set ≢ sets.never) × (new ≡ old ++ record { index = index; set = set } ∷ []))

-- the numbers of the targets that a configuration meets
abbrev pub covered : {I : Type 0} → Sets I → List Bool → List (Target I) → List ℕ
covered sets c ts = flat_map (λ t. if sets.test t.set c then t.index ∷ [] else []) ts

-- the targets that it doesn't meet
abbrev pub left_open : {I : Type 0} → Sets I → List Bool → List (Target I) → List (Target I)
left_open sets c ts = flat_map (λ t. if sets.test t.set c then [] else t ∷ []) ts

-- the set of the first target, ends before pieces
abbrev pub first_set : {I : Type 0} → List (Target I) → List (Target I) → Option I
first_set [] [] = None
first_set [] (t ∷ ts) = Some t.set
first_set (t ∷ ts) pieces = Some t.set

-- the set isn't never, and has no configuration that a whole doesn't have
pub record IsPart {I : Type 0} (old new : Sets I) (whole part : I) : Type 0 where
  pub known : new.is_known part ≡ true
  pub some : part ≢ new.never
  pub less : (c : List Bool) → new.test part c ≡ true → old.test whole c ≡ true
