-- Places with the configurations that have come to them. Whether both outputs are the same at a configuration is told from its place, as a test of the two numbers that name the place.
use Rattle.std.specs.Prelude.{◌≡◌, ℕ, ◌<◌, Bool, true, false, List, [], ◌∷◌, Some, ◌||◌, slice_get}
use Rattle.vx_space.specs.Sets.{Sets}
use Rattle.vx_agree.specs.declared.reached.Reached.{Reached}

-- the conditions are known
abbrev pub AreKnownPlaces : {I : Type 0} → Sets I → List (Reached I) → Type 0
AreKnownPlaces sets [] = Unit {0}
AreKnownPlaces sets (entry ∷ rest) = (sets.is_known entry.condition ≡ true) × AreKnownPlaces sets rest

-- some place holds the configuration
abbrev pub is_covered : {I : Type 0} → Sets I → List (Reached I) → List Bool → Bool
is_covered sets [] c = false
is_covered sets (entry ∷ rest) c = sets.test entry.condition c || is_covered sets rest c

-- each place that holds the configuration tells this of it
abbrev pub IsRightAtEach : {I : Type 0} → Sets I → List Bool → (ℕ → ℕ → Bool) → Bool → List (Reached I) → Type 0
IsRightAtEach sets c same_from same [] = Unit {0}
IsRightAtEach sets c same_from same (entry ∷ rest) = (sets.test entry.condition c ≡ true → same ≡ same_from entry.piece entry.byte) × IsRightAtEach sets c same_from same rest

-- each second number is below a bound
abbrev pub AreBelow : {I : Type 0} → ℕ → List (Reached I) → Type 0
AreBelow bound [] = Unit {0}
AreBelow bound (entry ∷ rest) = (entry.byte < bound) × AreBelow bound rest

-- an entry stands at a place
pub record IsAtPlace {I : Type 0} (reached : List (Reached I)) (index piece byte : ℕ) : Type 0 where
  pub entry : Reached I
  pub there : slice_get reached index ≡ Some entry
  pub piece_is : entry.piece ≡ piece
  pub byte_is : entry.byte ≡ byte

-- places were added: each is right if those before were, none is lost, and where `here` says so the configuration has a place if its outputs are the same
pub record IsAdded {I : Type 0} (s0 s1 : Sets I) (c : List Bool) (same_from : ℕ → ℕ → Bool) (same here : Bool) (old new : List (Reached I)) : Type 0 where
  pub each : IsRightAtEach s0 c same_from same old → IsRightAtEach s1 c same_from same new
  pub keeps : is_covered s0 old c ≡ true → is_covered s1 new c ≡ true
  pub adds : here ≡ true → same ≡ true → is_covered s1 new c ≡ true

-- the configurations of a condition were added at a place, which is right for them
pub record IsPlaced {I : Type 0} (s0 s1 : Sets I) (piece byte : ℕ) (condition : I) (old new : List (Reached I)) : Type 0 where
  pub known : AreKnownPlaces s1 new
  pub below : (bound : ℕ) → byte < bound → AreBelow bound old → AreBelow bound new
  pub added : (c : List Bool) (same_from : ℕ → ℕ → Bool) (same : Bool) → (s0.test condition c ≡ true → same ≡ same_from piece byte) → IsAdded s0 s1 c same_from same (s0.test condition c) old new
