-- Feature models.
use Rattle.std.specs.Prelude.{ℕ, ◌≤◌, List, [], ◌∷◌, length, map, Bool, Option, Some, None, ◌≢◌}
use Rattle.vx_words.specs.Names.{AreOptionNames}
use Rattle.vx_model.specs.declared.model.Model.{Model}
use Rattle.vx_model.specs.declared.model.OptionField.{OptionField}
use Rattle.vx_model.specs.declared.model.FieldPlace.{FieldPlace}
use Rattle.vx_model.specs.Formula.{formulas}
use Rattle.vx_model.specs.Truth.{all_true, AllNamesBelow}

-- no field is given to both
abbrev pub DifferentPlaces : Option FieldPlace → Option FieldPlace → Type 0
DifferentPlaces None b = Unit {0}
DifferentPlaces (Some a) None = Unit {0}
DifferentPlaces (Some a) (Some b) = a ≢ b

-- the model allows the configuration: each rule is true
abbrev pub is_allowed : Model → List Bool → Bool
is_allowed model c = all_true (formulas model.rules) c

-- the options have different names, and no field is given to both
abbrev pub AreApart : OptionField → OptionField → Type 0
AreApart a b = (a.name ≢ b.name) × DifferentPlaces a.place b.place

abbrev pub ApartFromAll : OptionField → List OptionField → Type 0
ApartFromAll a [] = Unit {0}
ApartFromAll a (b ∷ rest) = AreApart a b × ApartFromAll a rest

abbrev pub AllApart : List OptionField → Type 0
AllApart [] = Unit {0}
AllApart (a ∷ rest) = ApartFromAll a rest × AllApart rest

-- what each call that takes a model asks of it
pub record IsModel (model : Model) : Type 0 where
  pub at_most_64 : length model.options ≤ 64
  pub apart : AllApart model.options
  pub named : AllNamesBelow (length model.options) (formulas model.rules)

abbrev pub names_of : Model → List (List ℕ)
names_of model = map (λ option. option.name) model.options

-- the names of the options are lawful and distinct
abbrev pub HasOptionNames : Model → Type 0
HasOptionNames model = AreOptionNames (names_of model)
