-- The outcomes of one attempt of a group, each in a part of the path.
use Rattle.std.specs.Prelude.{◌≡◌, Bool, true, false, List, [], ◌∷◌, ◌&&◌, not}
use Rattle.vx_space.specs.Sets.{Sets}
use Rattle.vx_group.specs.Group.{path_of}
use Rattle.vx_outcome.specs.declared.outcome.Outcome.{Outcome}
use Rattle.vx_outcome.specs.declared.outcome.Outcome.TheVariants.{Go, Raise, Throw, Begin, Native, Write, Ended}

-- the configurations that come to an outcome
abbrev pub condition_of : {S I : Type 0} → Outcome S I → I
condition_of (Go group) = path_of group
condition_of (Raise group class message) = path_of group
condition_of (Throw group thrown) = path_of group
condition_of (Begin group class) = path_of group
condition_of (Native group method) = path_of group
condition_of (Write group stream text) = path_of group
condition_of (Ended condition end) = condition

-- the outcomes divide a set: each configuration of it comes to just one of them, and no other configuration to any
abbrev pub Divide : {S I : Type 0} → Sets I → (List Bool → Bool) → List (Outcome S I) → Type 0
Divide sets set [] = (c : List Bool) → set c ≡ false
Divide sets set (item ∷ items) = ((c : List Bool) → sets.test (condition_of item) c ≡ true → set c ≡ true) × Divide sets (λ c. set c && not (sets.test (condition_of item) c)) items
