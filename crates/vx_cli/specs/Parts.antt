-- Files that hold what `run` wrote of parts of a model, and what `join` writes of them.
use Rattle.std.specs.Prelude.{◌≡◌, ◌≤◌, ℕ, List, length, map}
use Rattle.std.specs.List.{AllZip}
use Rattle.vx_io.specs.Held.{Held, contents}
use Rattle.vx_io.specs.Sink.{SinkState, Gains}
use Rattle.vx_joined.specs.Law.{AreRuns, is_allowed_by}
use Rattle.vx_link.specs.declared.program.Program.{Program}
use Rattle.vx_model.specs.Models.{is_allowed}
use Rattle.vx_model.specs.declared.model.Model.{Model}
use Rattle.vx_report.specs.declared.report.Report.{Report}
use Rattle.vx_report_reader.specs.Rules.{ReportText}
use Rattle.vx_reporting.specs.Reported.{IsReported}
use Rattle.vx_plans.specs.Job.{names_of}
use Rattle.vx_inputs.specs.Reports.{most_report_bytes}

-- reports of one program: their version, the names of their options, their limit, the program, and the model of each
pub record Parts : Type 0 where
  pub version : ℕ
  pub names : List (List ℕ)
  pub limit : ℕ
  pub program : Program
  pub models : List Model

-- a file holds the text that `run` writes of the program under a model with these options, within the room for reports
pub record IsPart (held : Held) (parts : Parts) (path : List ℕ) (model : Model) : Type 0 where
  pub fits : length (contents held path) ≤ most_report_bytes
  pub names : names_of model ≡ parts.names
  pub reported : IsReported parts.version parts.names parts.limit (is_allowed model) parts.program (contents held path)

abbrev pub AreParts : Held → Parts → List (List ℕ) → Type 0
AreParts held parts paths = AllZip (IsPart held parts) paths parts.models

-- a text was written that spells one report of the program's runs: at each configuration that one of the models allows the run there, and no other is held
pub record IsWholeWritten (parts : Parts) (out out' : SinkState) : Type 0 where
  pub text : List ℕ
  pub gained : Gains out out' text
  pub report : Report
  pub spells : ReportText text report
  pub runs : AreRuns parts.version parts.names parts.limit (is_allowed_by (map is_allowed parts.models)) parts.program report
