-- A cut of a model: parts that can be read, and that divide what it allows.
use Rattle.std.specs.Prelude.{◌≡◌, ◌⊎◌, ℕ, Bool, true, false, List, length, map, filter, nat_lt, if◌then◌else◌, MatchResult, Ok}
use Rattle.std.specs.declared.result.Result.{Result}
use Rattle.std.specs.Global.{Vec}
use Rattle.std.specs.List.{AllByRecursion, flat_map, list_any}
use Rattle.vx_dimacs.specs.Dimacs.{dimacs_of}
use Rattle.vx_model.specs.Models.{is_allowed}
use Rattle.vx_model.specs.Text.{BadLine, model_of}
use Rattle.vx_model.specs.declared.model.Model.{Model}
use Rattle.vx_cut.specs.Parts.{terms_of, with_term}
use Rattle.vx_cut.specs.Texts.{parts_of}
use Rattle.vx_cut.specs.declared.cutting.CutFault.{CutFault}
use Rattle.vx_cut.specs.declared.cutting.CutFault.TheVariants.{NoMemory, TooLarge}

-- the model that bytes spell, as text or in DIMACS
abbrev pub spelled : Bool → List ℕ → Result Model BadLine
spelled dimacs bytes = if dimacs then dimacs_of bytes else model_of bytes

-- the models of the parts: the same options, and the rules with a term more
abbrev pub models_of : Bool → Model → List Bool → List Model
models_of dimacs model chosen = map (with_term dimacs model) (terms_of model chosen)

abbrev pub AllowsSome : Model → Type 0
AllowsSome model = (c : List Bool) × (is_allowed model c ≡ true)

-- how many of some models allow a configuration
abbrev pub allowing : List Model → List Bool → ℕ
allowing models c = length (filter (λ m. is_allowed m c) models)

-- The parts are read as these models. Each of them allows something, and a configuration that the model allows is allowed by just one of them, and one that it forbids by none: so what they allow is disjoint, and together what the model allows.
pub record IsCut (dimacs : Bool) (text : List ℕ) (model : Model) (chosen : List Bool) : Type 0 where
  pub read : map (spelled dimacs) (parts_of dimacs text model chosen) ≡ map Ok (models_of dimacs model chosen)
  pub some : AllByRecursion AllowsSome (models_of dimacs model chosen)
  pub divided : (c : List Bool) → allowing (models_of dimacs model chosen) c ≡ (if is_allowed model c then 1 else 0)

-- the room for a part
abbrev pub most_part_bytes : ℕ
most_part_bytes = 1048576

-- a part is larger than a model may be
abbrev pub is_large : List ℕ → Bool
is_large part = nat_lt most_part_bytes (length part)

abbrev pub is_oversized : List (List ℕ) → Bool
is_oversized parts = list_any is_large parts

-- the parts one after the other
abbrev pub joined : List (List ℕ) → List ℕ
joined parts = flat_map (λ part. part) parts

-- the parts were put one after the other; or one of them is too large, unless memory was wanting
abbrev pub ArePut : List (List ℕ) → Result (Vec ℕ) CutFault → Type 0
ArePut parts result =
    MatchResult result (λ bytes. (bytes.items ≡ joined parts) × (is_oversized parts ≡ false))
    (λ e. (e ≡ NoMemory) ⊎ ((e ≡ TooLarge) × (is_oversized parts ≡ true)))

-- the text of a cut: its parts one after the other
pub record IsCutText (dimacs : Bool) (text : List ℕ) (model : Model) (chosen : List Bool) (bytes : List ℕ) : Type 0 where
  pub spelled : bytes ≡ joined (parts_of dimacs text model chosen)
  pub cut : IsCut dimacs text model chosen
