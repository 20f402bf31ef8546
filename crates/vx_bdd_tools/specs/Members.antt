-- A member of a set.
use Rattle.std.specs.Prelude.{◌≡◌, ◌≢◌, Bool, true, false, List, length}
use Rattle.vx_space.specs.Sets.{Sets}

-- a configuration of the set, with one value per option
pub record IsMember {I : Type 0} (sets : Sets I) (id : I) (c : List Bool) : Type 0 where
  pub member : sets.test id c ≡ true
  pub values : length c ≡ sets.options

-- the part with the option off, or the one with it on where that is never
abbrev pub IsChosen : {I : Type 0} → Sets I → I → I → I → Bool → Type 0
IsChosen sets low high part true = (low ≡ sets.never) × (part ≡ high)
IsChosen sets low high part false = (low ≢ sets.never) × (part ≡ low)
