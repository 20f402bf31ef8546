-- What the report of a program's runs is: at each configuration that its model allows the run there, and as a whole the report of lockstep (own).
use Rattle.std.specs.Prelude.{◌≡◌, ◌≤◌, ◌⊎◌, ℕ, Bool, true, false, List, length, map, filter, not, Some}
use Rattle.std.specs.List.{list_all}
use Rattle.vx_bdd_tools.specs.declared.node.Node.{Node}
use Rattle.vx_bdd_tools.specs.Nodes.{holds}
use Rattle.vx_bdd_tools.specs.Numbering.{IsNumbered}
use Rattle.vx_lockstep.specs.Findings.{AreAllowed}
use Rattle.vx_java.specs.Lockstep as lockstep
use Rattle.vx_java.specs.Report.{LockReport, lock_report, projection_of}
use Rattle.vx_java.specs.Step.{Config, run}
use Rattle.vx_link.specs.declared.program.Program.{Program}
use Rattle.vx_report.specs.Projection.{project}
use Rattle.vx_report.specs.Text.{report_text}
use Rattle.vx_report.specs.declared.report.AttemptLine.{AttemptLine}
use Rattle.vx_report.specs.declared.report.EndLine.{EndLine}
use Rattle.vx_report.specs.declared.report.Piece.{Piece}
use Rattle.vx_report.specs.declared.report.Report.{Report}
use Rattle.vx_report_reader.specs.Rules.{ReportText, roots_of}
use Rattle.vx_spelled_ends.specs.Spelled.{IsSpelledReport}
use Rattle.vx_value.specs.declared.end.End.{End}
use Rattle.vx_words.specs.Names.{AreOptionNames}

-- the configurations of a list that a node holds
abbrev pub configs_of : List Node → List Config → ℕ → List Config
configs_of nodes list node = filter (holds nodes node) list

abbrev pub piece_of : List Node → List Config → Piece → lockstep.Shared lockstep.Piece
piece_of nodes list piece = record { value = (piece.stream, piece.text); configs = configs_of nodes list piece.node }

abbrev pub end_of : List Node → List Config → EndLine → lockstep.Shared End
end_of nodes list line = record { value = line.end; configs = configs_of nodes list line.node }

abbrev pub attempts_of : List Node → List Config → AttemptLine → lockstep.Shared ℕ
attempts_of nodes list line = record { value = line.attempts; configs = configs_of nodes list line.node }

-- a report says of the configurations of a list what the report of their lockstep does
pub record SaysLockstep (list : List Config) (lock : LockReport) (report : Report) : Type 0 where
  pub rounds : report.rounds ≡ lock.rounds
  pub pieces : map (piece_of report.nodes list) report.pieces ≡ lock.pieces
  pub ends : map (end_of report.nodes list) report.ends ≡ lock.ends
  pub attempts : map (attempts_of report.nodes list) report.attempts ≡ lock.attempts

-- no node of a piece, an end or a number of attempts holds the configuration
abbrev pub IsHeldNowhere : Report → Config → Type 0
IsHeldNowhere report c = list_all (λ node. not (holds report.nodes node c)) (roots_of report) ≡ true

-- What a report asks for: it is of version 1 or 2, its options have the names of a model's, its limit is in its range, a configuration is allowed, and what lockstep says can be spelled.
pub record IsReportable (version : ℕ) (options : List (List ℕ)) (limit : ℕ) (is_allowed : Config → Bool) (program : Program) : Type 0 where
  pub version_is : (version ≡ 1) ⊎ (version ≡ 2)
  pub names : AreOptionNames options
  pub least : 1 ≤ limit
  pub most : limit ≤ 1000000000
  pub some : (c : Config) × (is_allowed c ≡ true)
  pub spelled : (list : List Config) → IsSpelledReport limit (lock_report program list limit version)

-- The text is that of one lawful report of this version, with these options and this limit, so that reading it gives that report. Its projection at each allowed configuration of the options is the run of the program there, and nothing in it holds another one. Its nodes are in the numbering, and it says what the report of lockstep says, so no other text is the report.
pub record IsReported (version : ℕ) (options : List (List ℕ)) (limit : ℕ) (is_allowed : Config → Bool) (program : Program) (text : List ℕ) : Type 0 where
  pub report : Report
  pub spells : ReportText text report
  pub version_is : report.version ≡ version
  pub options_are : report.options ≡ options
  pub limit_is : report.limit ≡ limit
  pub runs : (c : Config) → length c ≡ length options → is_allowed c ≡ true → project report c ≡ Some (projection_of version (run program c limit))
  pub others : (c : Config) → length c ≡ length options → is_allowed c ≡ false → IsHeldNowhere report c
  pub numbered : IsNumbered (length options) report.nodes (roots_of report)
  pub lockstep : (list : List Config) → AreAllowed (length options) is_allowed list → SaysLockstep list (lock_report program list limit version) report

-- A report is that of the program: the text that it has is, and spells it.
pub record IsReportOf (version : ℕ) (options : List (List ℕ)) (limit : ℕ) (is_allowed : Config → Bool) (program : Program) (report : Report) : Type 0 where
  pub reported : IsReported version options limit is_allowed program (report_text report)
  pub same : reported.report ≡ report

-- no other text is the report of the program
pub record IsOnlyReport (version : ℕ) (options : List (List ℕ)) (limit : ℕ) (is_allowed : Config → Bool) (program : Program) (text : List ℕ) : Type 0 where
  pub only : (other : List ℕ) → IsReported version options limit is_allowed program other → other ≡ text
