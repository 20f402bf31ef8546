-- Numbers in a scope.
use Rattle.std.specs.Prelude.{◌≡◌, ◌≢◌, ℕ, ◌<◌, ◌≤◌, ◌^◌, Bool, true, false, List, [], ◌∷◌, Option, Some, None, if◌then◌else◌, suc, refl}
use Rattle.vx_space.specs.Sets.{Sets, AreKept}
use Rattle.vx_tally.specs.Tally.{TallyView, IsTally, number_at}

-- a `Counted` as contracts see it
pub record CountedView (I : Type 0) : Type 0 where
  pub scope : I
  pub tally : TallyView
  pub most : ℕ

-- the number at a configuration, or none outside the scope
abbrev pub counted_at : {I : Type 0} → Sets I → CountedView I → List Bool → Option ℕ
counted_at sets counted c = if sets.test counted.scope c then Some (number_at counted.tally c) else None

-- the ids held
abbrev pub counted_ids : {I : Type 0} → CountedView I → List I
counted_ids counted = counted.scope ∷ []

-- over this space: the scope is known, the tally is one over its options, and no number in the scope is above `most`
pub record CountedFacts {I : Type 0} (sets : Sets I) (counted : CountedView I) : Type 0 where
  pub scope_known : sets.is_known counted.scope ≡ true
  pub tally : IsTally sets.options counted.tally
  pub bound : (c : List Bool) → sets.test counted.scope c ≡ true → number_at counted.tally c ≤ counted.most
  pub fits : counted.most < 2 ^ 64

-- the same, as a word that tactics don't take apart
unfoldable pub IsCounted : {I : Type 0} → Sets I → CountedView I → Type 0
IsCounted sets counted = CountedFacts sets counted

-- numbers in a scope with this number at each configuration
pub record CountedOfFacts {I : Type 0} (sets : Sets I) (number : List Bool → Option ℕ) (counted : CountedView I) : Type 0 where
  pub is_counted : IsCounted sets counted
  pub at : (c : List Bool) → counted_at sets counted c ≡ number c

unfoldable pub IsCountedOf : {I : Type 0} → Sets I → (List Bool → Option ℕ) → CountedView I → Type 0
IsCountedOf sets number counted = CountedOfFacts sets number counted

-- each configuration of the scope is one below 2 ^ 64 with one more
pub record HasRoom {I : Type 0} (sets : Sets I) (counted : CountedView I) : Type 0 where
  pub below : (c : List Bool) → sets.test counted.scope c ≡ true → suc (number_at counted.tally c) < 2 ^ 64

-- one more at each configuration, over every space in which there is room for it
pub record IsOneMore {I : Type 0} (old new : CountedView I) : Type 0 where
  pub scope : new.scope ≡ old.scope
  pub number : (c : List Bool) → suc (number_at old.tally c) < 2 ^ 64 → number_at new.tally c ≡ suc (number_at old.tally c)
  pub valid : (sets : Sets I) → IsCounted sets old → HasRoom sets old → IsCounted sets new

-- the number stays where the scope keeps its set
pub counted_at-kept : {I : Type 0} (old new : Sets I) (counted : CountedView I) (c : List Bool) → AreKept old new (counted_ids counted) → counted_at new counted c ≡ counted_at old counted c
counted_at-kept old new counted c k = rw (k.0.test c) refl

-- a tally that says in the scope of one side what that one does, and in the scope of the other, elsewhere, what the other does
pub record IsJoinedTally {I : Type 0} (sets : Sets I) (one other : CountedView I) (tally : TallyView) : Type 0 where
  pub valid : IsTally sets.options tally
  pub in_one : (c : List Bool) → sets.test one.scope c ≡ true → number_at tally c ≡ number_at one.tally c
  pub in_other : (c : List Bool) → sets.test one.scope c ≡ false → sets.test other.scope c ≡ true → number_at tally c ≡ number_at other.tally c

-- `most` is the greatest number in the scope, or 0 where the scope is never
pub record IsTight {I : Type 0} (sets : Sets I) (counted : CountedView I) : Type 0 where
  pub attained : (counted.scope ≡ sets.never → counted.most ≡ 0) × (counted.scope ≢ sets.never → (c : List Bool) × (sets.test counted.scope c ≡ true) × (number_at counted.tally c ≡ counted.most))
