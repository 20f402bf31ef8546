-- A file that holds what `run` wrote, asked by `project` for a configuration.
use Rattle.std.specs.Prelude.{◌≡◌, ◌≤◌, ℕ, Bool, List, Some, length, true}
use Rattle.vx_io.specs.Held.{Held, contents}
use Rattle.vx_java.specs.Report.{projection_of}
use Rattle.vx_java.specs.Step.{run}
use Rattle.vx_link.specs.declared.program.Program.{Program}
use Rattle.vx_model.specs.Models.{is_allowed}
use Rattle.vx_model.specs.declared.model.Model.{Model}
use Rattle.vx_report.specs.Projection.{projection_text}
use Rattle.vx_reporting.specs.Reported.{IsReported}
use Rattle.vx_configuration.specs.Configuration.{configuration_of}
use Rattle.vx_plans.specs.Job.{names_of}
use Rattle.vx_inputs.specs.Reports.{most_report_bytes}

-- a report of `run`, by its version, its model, its limit and its program, and a configuration that it is asked for
pub record Asked : Type 0 where
  pub version : ℕ
  pub model : Model
  pub limit : ℕ
  pub program : Program
  pub configuration : List Bool

-- a file holds the text that `run` writes of this, within the room for reports, and a word names the configuration, which the model allows
pub record IsReportFile (held : Held) (path word : List ℕ) (asked : Asked) : Type 0 where
  pub fits : length (contents held path) ≤ most_report_bytes
  pub reported : IsReported asked.version (names_of asked.model) asked.limit (is_allowed asked.model) asked.program (contents held path)
  pub named : configuration_of (names_of asked.model) word ≡ Some asked.configuration
  pub allowed : is_allowed asked.model asked.configuration ≡ true

-- the text of the projection of the configuration's own run
abbrev pub asked_text : Asked → List ℕ
asked_text asked = projection_text (projection_of asked.version (run asked.program asked.configuration asked.limit))
