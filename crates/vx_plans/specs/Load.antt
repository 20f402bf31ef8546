-- What `load` writes: the summary of the report that `run` would write in version 1 of the workload's program, within a million attempts (own).
use Rattle.std.specs.Prelude.{List, ℕ, ◌≡◌}
use Rattle.vx_gen.specs.Workload.{names_of as first_names, work_model, work_program}
use Rattle.vx_link.specs.declared.program.Program.{Program}
use Rattle.vx_model.specs.Models.{is_allowed, names_of}
use Rattle.vx_model.specs.declared.model.Model.{Model}
use Rattle.vx_reporting.specs.Reported.{IsReported}
use Rattle.vx_summary.specs.Summary.{summary_text}

-- the most attempts of each run
abbrev pub load_limit : ℕ
load_limit = 1000000

-- the model and the program of a seed and a number of options
unfoldable pub load_model : (options : ℕ) → Model
load_model options = work_model (first_names options)

unfoldable pub load_program : (seed options : ℕ) → Program
load_program seed options = work_program seed (first_names options)

-- a text is the summary of the report of a program's runs in the configurations that a model allows: of that which these bytes spell
pub record IsSummaryOf (seed : ℕ) (model : Model) (program : Program) (text : List ℕ) : Type 0 where
  pub written : List ℕ
  pub reported : IsReported 1 (names_of model) load_limit (is_allowed model) program written
  pub spelled : text ≡ summary_text seed reported.report

abbrev pub IsSummary : (seed options : ℕ) → List ℕ → Type 0
IsSummary seed options text = IsSummaryOf seed (load_model options) (load_program seed options) text
