-- The plan of `cut`: the order of its questions and of its refusals.
use Rattle.std.specs.Prelude.{◌≡◌, ◌⊎◌, ℕ, Bool, true, List, length, nat_le, nat_lt, if◌then◌else◌, Option, Some, None, Ok, Err}
use Rattle.std.specs.declared.result.Result.{Result}
use Rattle.vx_agree.specs.Options.{are_same_names}
use Rattle.vx_configuration.specs.Configuration.{configuration_of}
use Rattle.vx_cut.specs.Choices.{chosen_count, is_choice}
use Rattle.vx_cut.specs.Cuts.{IsCutText, is_oversized, most_part_bytes}
use Rattle.vx_cut.specs.Texts.{parts_of}
use Rattle.vx_inputs.specs.Reports.{read_report}
use Rattle.vx_model.specs.declared.model.Model.{Model}
use Rattle.vx_plans.specs.Job.{Parts, is_dimacs_path, model_of, names_of}
use Rattle.vx_plans.specs.Plan.{Choose, If_allowed, Plan, Write, attempt, unless}
use Rattle.vx_plans.specs.Sized.{most_bytes, read_sized}
use Rattle.vx_plans.specs.declared.status.Status.{Status}
use Rattle.vx_plans.specs.declared.status.Status.TheVariants.{NotAllowed, TooLarge, Unlike}
use Rattle.vx_report.specs.declared.report.Report.{Report}

-- the options by which a model is cut: those that a word names, or so many
pub data Choice : Type 0 where
  Named : (word : List ℕ) → Choice
  Many : (count : ℕ) → Choice

-- the greatest number of options by which a model is cut
abbrev pub most_chosen : ℕ
most_chosen = 16

abbrev pub if_few : Option (List Bool) → Result (List Bool) Status
if_few None = Err NotAllowed
if_few (Some chosen) = if nat_le (chosen_count chosen) most_chosen then Ok chosen else Err NotAllowed

-- the options that a word names: each an option of the model, none twice, and not too many
abbrev pub named_options : Model → List ℕ → Result (List Bool) Status
named_options model word = if_few (configuration_of (names_of model) word)

-- the model has fewer options
abbrev pub too_few : Model → ℕ → Option Status
too_few model count = if nat_lt (length model.options) count then Some NotAllowed else None

-- goes on with the options that are chosen
abbrev pub choose : Choice → Model → (List Bool → Plan) → Plan
choose (Named word) model next = attempt (named_options model word) next
choose (Many count) model next = unless (too_few model count) (Choose (is_choice model count) next)

-- a report is of a model where their options have the same names
abbrev pub unlike_model : Report → Model → Option Status
unlike_model report model = if are_same_names report.options (names_of model) then None else Some Unlike

-- reads a report of a model, where one is given
abbrev pub read_like : Option (List ℕ) → Model → Plan → Plan
read_like None model next = next
read_like (Some path) model next = read_report path (λ report. unless (unlike_model report model) next)

-- reads a model that allows a configuration, and goes on with its text and with it
abbrev pub read_source : List ℕ → (List ℕ → Model → Plan) → Plan
read_source path next = read_sized most_bytes path path (λ text. attempt (model_of path text) (λ model. If_allowed model (next text model)))

-- a part would be larger than a model may be
abbrev pub oversized : List ℕ → List ℕ → Model → List Bool → Option Status
oversized path text model chosen = if is_oversized (parts_of (is_dimacs_path path) text model chosen) then Some (TooLarge path most_part_bytes) else None

-- what is written of a model and the options that are chosen
abbrev pub cut_by : List ℕ → List ℕ → Model → List Bool → Plan
cut_by path text model chosen = unless (oversized path text model chosen) (Write (Parts (is_dimacs_path path) text model chosen))

abbrev pub cut_source : List ℕ → Choice → Option (List ℕ) → List ℕ → Model → Plan
cut_source path choice report text model = read_like report model (choose choice model (cut_by path text model))

-- the plan of `cut`: the model first, then the report where there is one, then the options, and then the size of the parts
abbrev pub cut_plan : List ℕ → Choice → Option (List ℕ) → Plan
cut_plan path choice report = read_source path (cut_source path choice report)

-- these options are chosen
abbrev pub IsChosen : Choice → Model → List Bool → Type 0
IsChosen (Named word) model chosen = named_options model word ≡ Ok chosen
IsChosen (Many count) model chosen = (too_few model count ≡ None) × (is_choice model count chosen ≡ true)

-- none can be chosen
abbrev pub IsUnchosen : Choice → Model → Status → Type 0
IsUnchosen (Named word) model status = named_options model word ≡ Err status
IsUnchosen (Many count) model status = too_few model count ≡ Some status

-- a part by options that are chosen would be too large
pub record IsOversized (path text : List ℕ) (choice : Choice) (model : Model) (status : Status) : Type 0 where
  pub chosen : List Bool
  pub is_chosen : IsChosen choice model chosen
  pub large : oversized path text model chosen ≡ Some status

-- options are chosen, and the text has the parts by them
pub record GivesParts (path text : List ℕ) (choice : Choice) (model : Model) (bytes : List ℕ) : Type 0 where
  pub chosen : List Bool
  pub is_chosen : IsChosen choice model chosen
  pub fits : oversized path text model chosen ≡ None
  pub shows : IsCutText (is_dimacs_path path) text model chosen bytes
