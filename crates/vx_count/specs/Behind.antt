-- The settings that begin with some values, and the parts of a set at an option.
use Rattle.std.specs.Prelude.{◌≡◌, ℕ, Bool, true, false, List, ◌++◌, map, filter}
use Rattle.vx_space.specs.Config.{value_of}
use Rattle.vx_space.specs.Sets.{Sets}
use Rattle.vx_count.specs.Settings.{settings}

-- those at which a test holds, in their order, where so many options are left
abbrev pub settings_behind : List Bool → ℕ → (List Bool → Bool) → List (List Bool)
settings_behind front left test = map (λ c. front ++ c) (filter (λ c. test (front ++ c)) (settings left))

-- a known set that is as another one where an option has a value
pub record IsPartAt {I : Type 0} (sets : Sets I) (id : I) (option : ℕ) (value : Bool) (part : I) : Type 0 where
  pub known : sets.is_known part ≡ true
  pub test : (c : List Bool) → value_of c option ≡ value → sets.test part c ≡ sets.test id c

-- the one where the option is off, and the one where it is on
pub record ArePartsAt {I : Type 0} (sets : Sets I) (id : I) (option : ℕ) (low high : I) : Type 0 where
  pub off : IsPartAt sets id option false low
  pub on : IsPartAt sets id option true high
