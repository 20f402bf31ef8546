-- Options that are chosen: for each option of a model whether it is.
use Rattle.std.specs.Prelude.{◌≡◌, ℕ, ◌<◌, Bool, List, length, filter, ◌&&◌, ◌==◌, MatchOption, Option, Some, true, false, slice_get}
use Rattle.std.specs.List.{list_all}
use Rattle.std.specs.Global.{Vec}
use Rattle.vx_model.specs.declared.model.Model.{Model}

-- how many options are chosen
abbrev pub chosen_count : List Bool → ℕ
chosen_count chosen = length (filter (λ b. b) chosen)

-- so many of the model's options are chosen
abbrev pub is_choice : Model → ℕ → List Bool → Bool
is_choice model count chosen = length chosen == length model.options && chosen_count chosen == count

-- a choice of so many of some options; there is none where there are fewer
abbrev pub HasChoice : ℕ → ℕ → Option (Vec Bool) → Type 0
HasChoice options count choice = MatchOption choice (options < count) (λ chosen. (length chosen.items ≡ options) × (chosen_count chosen.items ≡ count))

-- the place of an option that isn't chosen, or all are
abbrev pub IsOpen : List Bool → Option ℕ → Type 0
IsOpen chosen place = MatchOption place (list_all (λ b. b) chosen ≡ true) (λ i. slice_get chosen i ≡ Some false)
